-- The tries of a call, row by row.
use Rattle.std.proofs.Common.{◌≡◌, ℕ, inl, inr, true, false}
use Rattle.histories.specs.Common.{Row, Step, LoadSettled, Settled, Head as HeadWord, History, ◌⊳◌, Extends, Lawful, Call, row_of, Remaining, node}
use Rattle.template.specs.Common.{load, begins_try, IsPastRoot}
use Rattle.template.specs.declared.walk.WalkAt.{WalkAt}
use Rattle.template.specs.declared.walk.WalkAt.TheVariants.{Start, Root, Head, Key, Child, More, Pair, Value, High}
use Rattle.template.proofs.Lemmas.{contended_later, in_newest_more, in_newest_now, next_more, own_begins}
use Rattle.edits.specs.Known.{IsUntouched}
use Rattle.edits.specs.Tries.{HasEnteredNone, MayTry, IsTry, IsTryAt}

-- a row that begins no try of the pass leaves its newest the newest
module _ (c : Call) (begin h : History) (r : Row) (limit left : ℕ) (none : begins_try c.pass r ≡ false) where
  pub may_more : MayTry c begin h limit left → MayTry c begin (r ⊳ h) limit left
  may_more x = record { since = x.since; none = x.none; next = next_more c r h limit left none x.next }

  pub try_more : IsTry c begin h limit left → IsTry c begin (r ⊳ h) limit left
  try_more x = record { since = x.since; none = x.none; newest = in_newest_more c r h limit left begin none x.newest }

  pub try_at_more : (at : WalkAt) → IsTryAt c begin h limit left at → IsTryAt c begin (r ⊳ h) limit left at
  try_at_more Start x = try_more x
  try_at_more Root x = may_more x
  try_at_more (Head above) x = try_more x
  try_at_more (Key head) x = try_more x
  try_at_more (Child level side) x = try_more x
  try_at_more (More head) x = try_more x
  try_at_more (Pair head more slot) x = try_more x
  try_at_more (Value head more slot key) x = try_more x
  try_at_more (High head more slot key low) x = try_more x

-- past the root's head the try has begun
pub past_root : {c : Call} {begin h : History} {limit left : ℕ} (at : WalkAt) → IsPastRoot at → IsTry c begin h limit left → IsTryAt c begin h limit left at
past_root Start past x = absurd past
past_root Root past x = absurd past
past_root (Head above) past x = x
past_root (Key head) past x = x
past_root (Child level side) past x = x
past_root (More head) past x = x
past_root (Pair head more slot) past x = x
past_root (Value head more slot key) past x = x
past_root (High head more slot key low) past x = x

-- the load of the root's head begins one, where the pass has entered nothing yet
pub try_begins : (c : Call) (begin h : History) (s : Step) (limit left : ℕ) → s ≡ load LoadSettled (node 0 (Settled HeadWord)) → Extends h c.start → HasEnteredNone c.layout c.pass h c.start → MayTry c begin h limit left → IsTry c h (row_of c s h ⊳ h) limit left
try_begins c begin h s limit left asked since none x = record {
  since = since;
  none = none;
  newest = in_newest_now c (row_of c s h) h limit left begins x.next;
}
  where
    begins : begins_try c.pass (row_of c s h) ≡ true
    begins = own_begins c s h asked

-- what was so as the walk began is so as it ends
pub untouched_later : (c : Call) (b h : History) (left : Remaining) → Lawful c.layout h → Extends h b → IsUntouched c b left → IsUntouched c h left
untouched_later c b h left l e (inl x) = inl x
untouched_later c b h left l e (inr x) = inr (x.0, x.1, contended_later c h b x.0 x.1 l e x.2)

-- Calls of updates, of whatever machine updates: at a place of it, or before it has begun.
use Rattle.std.specs.Prelude.{◌≡◌, ℕ, suc, ◌+◌, ◌-◌, ◌*◌, ◌≤◌, List, [], Option, Some, None, Result, Ok, Err}
use Rattle.histories.specs.Common.{NodeWord, Ghosts as Machine, History, Remaining, ScxNo}
use Rattle.arena.specs.declared.machine.Shape.{Ghosts as Shape}
use Rattle.atomic_table.specs.declared.shared.Seat.{Seat}
use Rattle.template.specs.Common.{TreeAllows, HelpRun}
use Rattle.edits.specs.Edits.{EditMeaning}
use Rattle.edits.specs.Known.{UpdateIsReady, UpdateWaits, UpdateAnswers}
use Rattle.template.specs.declared.walk.Found.{Found}
use Rattle.edits.specs.Next.{fills, left_then, placed, standing, next_step, update_of, MayStop}
use Rattle.edits.specs.Pieces.{fills_behind, no_work, nth_node, part_behind}
use Rattle.edits.specs.Readings.{nothing_read}
use Rattle.edits.specs.Steps.{Spends, node_tries, pieces_now, scx_tries, try_left}
use Rattle.edits.specs.declared.edit.Nth.{Nth}
use Rattle.edits.specs.declared.piece.Piece.{Piece}
use Rattle.edits.specs.declared.update.Next.{Next}
use Rattle.edits.specs.declared.update.Stop.{Stop}
use Rattle.edits.specs.declared.update.UpdateAt.{UpdateAt}
use Rattle.edits.specs.declared.update.UpdateAt.TheVariants.{Start, Fill, Scx}
use Rattle.edits.specs.declared.update.UpdateRun.{UpdateRun}
use Rattle.edits.specs.declared.update.Updated.{Updated}
use Rattle.prims.specs.Scx.Steps.{scx_left}
use Rattle.prims.specs.Shares.{share_end}
use Rattle.prims.specs.declared.scx.ScxAt.TheVariants.{Help}
use Rattle.straight.specs.StraightScx.{all_frozen_load}
use Rattle.straight.specs.declared.hand.Hand.{Hand}
use Rattle.tables.specs.declared.memory.PassMemory.{PassMemory}
use Rattle.tables.specs.declared.view.SeatView.{SeatView}
use Rattle.tables.specs.declared.view.SeatedPass.{SeatedPass}
use Rattle.straight.specs.CallKinds.{Calls}
use Rattle.straight.specs.Hands.{hand_calls, names}
use Rattle.straight.specs.Hosts.{Host, HostedBegins, HostedEnds, HostedIsTold, HostedWaits, InnerCall}
use Rattle.straight.specs.Leads.{Leads, steps_made}
use Rattle.tables.specs.Seats.{StaysAtTable}
use Rattle.tables.specs.Traces.{Trace, HoldsForCall, shared_nodes}
use Rattle.tables.specs.Slotted.{node_begins}
use Rattle.slots.specs.Lasting.{Lasting}

-- The second run is the same update further on, which has given up one try at most. Of the share
-- no more is taken than may be, if this many tries may still take nodes, and this many an
-- SCX-record; what is left ends where it did.
pub record HasUpdateGoneOn {E A : Type 0} (e : EditMeaning E) (old : UpdateRun E UpdateAt) (now : UpdateRun E A) (nodes scx : ℕ) : Type 0 where
  pub edit : now.edit ≡ old.edit
  pub called : now.call ≡ old.call
  pub limit : now.limit ≡ old.limit
  pub tries : (old.tries ≤ now.tries + 1) × (now.tries ≤ old.tries)
  pub spends : Spends (e.most_nodes now.edit) old.share now.share (node_tries old old.at) nodes (scx_tries old old.at) scx
  pub end : share_end now.share ≡ share_end old.share

-- an update that has made nothing yet, in the call of this number
abbrev pub new_update : {E : Type 0} → E → Remaining → ℕ → ℕ → UpdateRun E (Unit {0})
new_update edit share tries call = record {
  edit = edit;
  share = share;
  work = no_work;
  guard = record { node = record { 0 = 0 }; scx = record { 0 = 0 }; left = record { 0 = 0 }; right = record { 0 = 0 } };
  snaps = record { items = [] };
  nodes = record { first = record { 0 = 0 }; second = record { 0 = 0 }; third = record { 0 = 0 } };
  read = nothing_read;
  tries = tries - 1;
  limit = tries;
  call = call;
  at = tt;
}

-- An update that is called inside another call. If it continues with a step, its place says how
-- many tries may still take of the share; where it has answered, those that are left may.
abbrev pub inner_update : {E : Type 0} → EditMeaning E → InnerCall (UpdateRun E UpdateAt) Updated
inner_update e = record {
  allows = TreeAllows;
  ready = UpdateIsReady e;
  waits = UpdateWaits e;
  answers = UpdateAnswers e;
  goes = λ old now. HasUpdateGoneOn e old now (node_tries now now.at) (scx_tries now now.at);
  ends = λ old now. HasUpdateGoneOn e old now now.tries now.tries;
}

-- how many words of a piece are left to be filled, if this one is the next, if one is
abbrev pub fills_then : Piece → Option NodeWord → ℕ
fills_then p None = 0
fills_then p (Some part) = suc (fills_behind p part)

-- a call of a machine that updates
abbrev pub Updater : {M E : Type 0} → Calls M → EditMeaning E → Type 0
Updater o e = Host o (inner_update e)

-- the machine's update as it was when it got the result of the last step, after which its try, the
-- same as before, may end so
pub record HasTryStopped {M E : Type 0} {o : Calls M} {e : EditMeaning E} (u : Updater o e) {A : Type 0} (m : UpdateRun E A) (f : Found) (stop : Stop) (h : History) : Type 0 where
  pub old : UpdateRun E UpdateAt
  pub got : Option ℕ
  pub was : o.ready (u.with_run old) u.call h got
  pub goes : HasUpdateGoneOn e old m m.tries m.tries
  pub tries : m.tries ≡ old.tries
  pub may : MayStop e u.call h m f stop
  pub course : Trace o.allows o.waits o.same u.call u.first (u.with_run old) h

module _ {M E : Type 0} {o : Calls M} {e : EditMeaning E} (u : Updater o e) (ps : List SeatedPass) where
  -- its update has not begun
  abbrev pub UpdaterBegins : {A : Type 0} → UpdateRun E A → Type 0
  UpdaterBegins m = HostedBegins u ps (standing m Start)

  -- its update has answered, whatever its place
  abbrev pub UpdaterEnds : {A : Type 0} → UpdateRun E A → Updated → Type 0
  UpdaterEnds m a = HostedEnds u ps (standing m Start) a

  -- its update waits for the first step of what its try does next
  abbrev pub UpdaterTries : {A : Type 0} → UpdateRun E A → Found → Next → Type 0
  UpdaterTries m f next = HostedWaits u ps (placed e m f next) (next_step e m f next)

  -- its try may end so, after the last step whose result it got
  abbrev pub UpdaterStops : {A : Type 0} → UpdateRun E A → Found → Stop → Type 0
  UpdaterStops m f stop = HoldsForCall o.allows (o.left_dealt u.first) ps u.call (λ h. HasTryStopped u m f stop h)

  -- it waits for the first step of what its try does next, or the try may end so
  abbrev pub UpdaterGoesOn : {A : Type 0} → UpdateRun E A → Found → Result Next Stop → Type 0
  UpdaterGoesOn m f (Ok next) = UpdaterTries m f next
  UpdaterGoesOn m f (Err stop) = UpdaterStops m f stop

  -- its update waits for the fill of this word of the fresh node of this place; or, where there is
  -- none, it has filled the last of them
  abbrev pub UpdaterFills : {A : Type 0} → UpdateRun E A → Found → Nth → Option NodeWord → Type 0
  UpdaterFills m f nth (Some part) = HostedWaits u ps (standing m (Fill f nth part)) (fills e m f nth part)
  UpdaterFills m f nth None = (last : NodeWord) × (told : ℕ) × (part_behind (pieces_now e m f nth) last ≡ None) × HostedIsTold u ps (standing m (Fill f nth last)) told

  -- its SCX could not freeze a node, and waits to look whether all were frozen
  abbrev pub UpdaterIsBlocked : {A : Type 0} → UpdateRun E A → Found → ScxNo → HelpRun → Type 0
  UpdaterIsBlocked m f scx help = HostedWaits u ps (standing m (Scx f record { scx = scx; call = m.call; update = update_of m; at = Help help })) (all_frozen_load scx)

  -- its update has answered, whatever its place, and this is left of its share
  abbrev pub UpdaterLeaves : Updated → Remaining → Type 0
  UpdaterLeaves a share = (m : UpdateRun E (Unit {0})) × (m.share ≡ share) × UpdaterEnds m a

-- the words of the fresh node of this place begin there, and the piece is what the edit says of it
abbrev pub IsFreshPiece : {E A : Type 0} → Lasting → EditMeaning E → UpdateRun E A → Found → Nth → ℕ → Piece → Type 0
IsFreshPiece t e m f nth start p = (start ≡ node_begins t (nth_node m.nodes nth)) × (p ≡ pieces_now e m f nth)

-- how many steps are left to an update whose SCX could not freeze a node, if its HELP is there
abbrev pub left_at_block : {E A : Type 0} → EditMeaning E → UpdateRun E A → HelpRun → ℕ → ℕ
left_at_block e m help nodes = suc (m.tries * try_left e m.edit nodes + scx_left (Help help))

module _ {S T M A E : Type 0} (s : Shape T) (m : Machine M T A) (left : M → PassMemory → Type 0) (e : EditMeaning E) (hand : Hand S) (f : Found) where
  -- in a call of the hand, a try that has found f is about to do `next`
  abbrev pub StandsToTry : {B : Type 0} → Seat ℕ SeatView → UpdateRun E B → Result Next Stop → Type 0
  StandsToTry seat run next = (u : Updater (hand_calls s m left hand) e) × UpdaterGoesOn u seat.me.0.passes run f next

  -- From the old seat, about to do `next`, a try gets to the new one, about to do `behind`: at the
  -- same table, in any call of the hand. The steps left drop by at least those made.
  pub record TryGoesOn {B C : Type 0} (old : Seat ℕ SeatView) (run : UpdateRun E B) (next : Result Next Stop) (new : Seat ℕ SeatView) (now : UpdateRun E C) (behind : Result Next Stop) : Type 0 where
    pub table : StaysAtTable old new
    pub to : (u : Updater (hand_calls s m left hand) e) → UpdaterGoesOn u old.me.0.passes run f next → UpdaterGoesOn u new.me.0.passes now f behind
    pub later : steps_made old ≤ steps_made new
    pub steps : steps_made new + left_then e now f behind (shared_nodes (names hand)) ≤ steps_made old + left_then e run f next (shared_nodes (names hand))

  -- from this seat, with a try about to do `next`, the update ends at that one, with this answer
  abbrev pub TryEnds : {B C : Type 0} → Seat ℕ SeatView → UpdateRun E B → Result Next Stop → Seat ℕ SeatView → UpdateRun E C → Updated → Type 0
  TryEnds old run next new now answer = Leads {K = Updater (hand_calls s m left hand) e} old new (left_then e run f next (shared_nodes (names hand))) (λ u ps. UpdaterGoesOn u ps run f next) (λ u ps. UpdaterEnds u ps now answer)

  -- in a call of the hand, this word of the fresh node of this place is filled next, if one is
  abbrev pub StandsToFill : {B : Type 0} → Seat ℕ SeatView → UpdateRun E B → Nth → Option NodeWord → Type 0
  StandsToFill seat run nth next = (u : Updater (hand_calls s m left hand) e) × UpdaterFills u seat.me.0.passes run f nth next

  -- From the old seat, where one word of the fresh node of this place is filled next, one gets to
  -- the new one, where another is, as `TryGoesOn` says.
  pub record FillGoesOn {B : Type 0} (run : UpdateRun E B) (nth : Nth) (p : Piece) (old : Seat ℕ SeatView) (next : Option NodeWord) (new : Seat ℕ SeatView) (behind : Option NodeWord) : Type 0 where
    pub table : StaysAtTable old new
    pub to : (u : Updater (hand_calls s m left hand) e) → UpdaterFills u old.me.0.passes run f nth next → UpdaterFills u new.me.0.passes run f nth behind
    pub later : steps_made old ≤ steps_made new
    pub steps : steps_made new + fills_then p behind ≤ steps_made old + fills_then p next

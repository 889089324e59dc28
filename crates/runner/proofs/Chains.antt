-- The calls of a client, one after the other.
use Rattle.std.proofs.Common.{◌≡◌, ◌∙◌, ℕ, ◌+◌, ◌<◌, true, false, eqb, List, [], ◌∷◌, ◌++◌, take, length, get_or, Some, refl, sym, subst, append-nil}
use Rattle.arena.proofs.Lemmas.{ends_self, ends_trans}
use Rattle.record.specs.Common.{MapCall, Reply, Call, Command, commands, map_call}
use Rattle.record.proofs.Lemmas.{commands_next}
use Rattle.tables.specs.Passes.{Ground, PassView, IsLaterView, run_of}
use Rattle.runner.specs.Calls.{HasCalledNumbers, HaveReplies}

-- what was known later, of what was known later, is known later
pub later_self : (p : PassView) → IsLaterView p p
later_self p = record { table = refl; layout = refl; number = refl; run = ends_self (run_of p) }

pub later_again : (a b d : PassView) → IsLaterView a b → IsLaterView b d → IsLaterView a d
later_again a b d x y = record { table = y.table ∙ x.table; layout = y.layout ∙ x.layout; number = y.number ∙ x.number; run = ends_trans (run_of d) (run_of b) (run_of a) y.run x.run }

-- one call more
pub replies_more : (P : PassView → PassView → MapCall → Reply ℕ ℕ → Type 0) (a b d : PassView) (cs : List Command) (rs : List (Reply ℕ ℕ)) (command : Command) (call : MapCall) (reply : Reply ℕ ℕ) → HaveReplies P a cs rs b → map_call (Some command) ≡ Some call → P b d call reply → HaveReplies P a (cs ++ command ∷ []) (rs ++ reply ∷ []) d
replies_more P a b d [] [] command call reply h is p = (call, d, is, subst (λ x. P x d call reply) h p, refl)
replies_more P a b d [] (r ∷ rs) command call reply h is p = absurd h
replies_more P a b d (x ∷ cs) [] command call reply h is p = absurd h
replies_more P a b d (x ∷ cs) (r ∷ rs) command call reply h is p = (h.0, h.1, h.2, h.3, replies_more P h.1 b d cs rs command call reply h.4 is p)

-- what the pass knew at the end is later than what it knew at the start
pub replies_later : (f : Ground) (old new : PassView) (cs : List Command) (rs : List (Reply ℕ ℕ)) → HaveReplies (HasCalledNumbers f) old cs rs new → IsLaterView old new
replies_later f old new [] [] h = subst (IsLaterView old) (sym h) (later_self old)
replies_later f old new [] (r ∷ rs) h = absurd h
replies_later f old new (c ∷ cs) [] h = absurd h
replies_later f old new (c ∷ cs) (r ∷ rs) h = later_again old h.1 new h.3.1.goes_on.later (replies_later f h.1 new cs rs h.4)

module _ (P : PassView → PassView → MapCall → Reply ℕ ℕ → Type 0) (calls : List Call) (i : ℕ) (call : Call) (c : ℕ) (less : i < length calls) (is : call ≡ get_or calls i call) (a b : PassView) (rs : List (Reply ℕ ℕ)) (h : HaveReplies P a (commands (take i calls) c) rs b) where
  -- after a call of the client
  pub replies_next : eqb call.client.0 c ≡ true → (d : PassView) (made : MapCall) (reply : Reply ℕ ℕ) → map_call (Some call.command) ≡ Some made → P b d made reply → HaveReplies P a (commands (take (i + 1) calls) c) (rs ++ reply ∷ []) d
  replies_next same d made reply map p = subst (λ cs. HaveReplies P a cs (rs ++ reply ∷ []) d) (sym (commands_next calls i call c true less is same)) (replies_more P a b d (commands (take i calls) c) rs call.command made reply h map p)

  -- after another's
  pub replies_skip : eqb call.client.0 c ≡ false → HaveReplies P a (commands (take (i + 1) calls) c) rs b
  replies_skip same = subst (λ cs. HaveReplies P a cs rs b) (sym (commands_next calls i call c false less is same ∙ append-nil (commands (take i calls) c))) h

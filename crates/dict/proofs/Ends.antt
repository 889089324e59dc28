-- What the machine of a call has answered is right, where the machine inside has answered.
use Rattle.std.proofs.Common.{◌≡◌, ℕ, suc, ◌^◌, ◌<◌, ◌≤◌, Option, Some, None, Result, sym, ◌∙◌, subst, arith}
use Rattle.histories.specs.Common.{History, Call, IsRun, Remaining}
use Rattle.order.specs.Known.{ReadAnswers}
use Rattle.order.specs.declared.refused.Refused.{Refused}
use Rattle.order.specs.declared.run.ReadRun.{ReadRun}
use Rattle.template.specs.Common.{Get as GetOf, TreeAllows, HasTriedAtMost, HasTriedAllBut, Rule, tries_begun, Key as ToKey, FoundBy, WalkIsReady, IsPastRoot, WalkFits, nodes_in_try}
use Rattle.template.specs.Walk.Steps.{steps_left}
use Rattle.prims.specs.Shares.{share_end}
use Rattle.tree.specs.declared.key_edit.KeyEdit.{KeyEdit}
use Rattle.template.specs.declared.walk.Found.{Found}
use Rattle.template.specs.declared.walk.WalkAt.{WalkAt}
use Rattle.template.specs.declared.walk.WalkRun.{WalkRun}
use Rattle.template.proofs.Lemmas.{tried_one, walk_past_root}
use Rattle.edits.specs.Known.{RestsWith, UpdateAnswers}
use Rattle.edits.specs.Steps.{node_tries, scx_tries, Spends}
use Rattle.edits.specs.declared.update.UpdateAt.{UpdateAt}
use Rattle.edits.specs.declared.update.UpdateRun.{UpdateRun}
use Rattle.edits.specs.declared.update.Updated.{Updated}
use Rattle.dict.specs.Known.{HasRested, HasTriedOnce, HasTriedOnceAt, Goes, InnerAnswers}
use Rattle.dict.specs.WordReplies.{WordReply, edit_reply, read_reply}
use Rattle.dict.specs.Inner.{GoalBy, ReadKind, Update, Get, Read, edit_means}
use Rattle.dict.specs.Laws.Begins.{dict_mode}
use Rattle.dict.specs.Laws.Kinds.{IsReadKind, edit_form}
use Rattle.dict.proofs.Endings.{edit_says, get_says, read_says, read_spent, edit_spends, edit_spent}

-- Their way

module _ (tries : ℕ) (c : Call) where
  -- an edit that continues is the same
  pub edit_goes : (old now : UpdateRun (KeyEdit GoalBy Rule) UpdateAt) → Goes (Update old) tries c → now.edit ≡ old.edit → now.call ≡ old.call → now.limit ≡ old.limit → share_end now.share ≡ share_end old.share → Spends (nodes_in_try now.edit.rule) old.share now.share (node_tries old old.at) (node_tries now now.at) (scx_tries old old.at) (scx_tries now now.at) → Goes (Update now) tries c
  edit_goes old now goes edit call limit end spends = record {
    mode = rw edit goes.mode;
    small = rw edit goes.small;
    number = call ∙ goes.number;
    limit = limit ∙ goes.limit;
    spent = rw edit (edit_spends c (nodes_in_try old.edit.rule) old.share now.share tries (node_tries old old.at) (node_tries now now.at) (scx_tries old old.at) (scx_tries now now.at) goes.spent (rw edit at spends) end);
  }

-- The tries of a get

-- while it has begun none it may be anywhere
pub none_tried : (at : WalkAt) (now then : ℕ) → now ≡ then → HasTriedOnceAt at now then
none_tried at now then e = (omega (arith, e), λ root. e)

-- past the root it has begun one at most
pub once_past : (at : WalkAt) (now then : ℕ) → IsPastRoot at → now ≤ suc then → HasTriedOnceAt at now then
once_past at now then past i = (i, λ root. absurd (subst IsPastRoot root past))

pub tried_once : (got : Option ℕ) (now then : ℕ) → HasTriedOnce got now then → now ≤ suc then
tried_once None now then e = omega (arith, e)
tried_once (Some v) now then i = i

-- where its walk is once it has asked for a step
pub stands_once : (c : Call) (h : History) (m now : WalkRun) (got : Option ℕ) (n s : ℕ) → IsRun TreeAllows c.layout h → WalkIsReady m c h got → HasTriedOnce got n s → now.way ≡ m.way → ((nodes : ℕ) → WalkFits m got nodes → steps_left now nodes < steps_left m nodes) → HasTriedOnceAt now.at n s
stands_once c h m now None n s run ready e way nearer = none_tried now.at n s e
stands_once c h m now (Some v) n s run ready i way nearer = once_past now.at n s (walk_past_root m c h now v run ready way nearer) i

-- Their answers

module _ (tries : ℕ) (c : Call) (h : History) where
  pub edit_ends : (old now : UpdateRun (KeyEdit GoalBy Rule) UpdateAt) (a : Updated) → IsRun TreeAllows c.layout h → Goes (Update old) tries c → now.edit ≡ old.edit → now.call ≡ old.call → now.limit ≡ old.limit → share_end now.share ≡ share_end old.share → Spends (nodes_in_try now.edit.rule) old.share now.share (node_tries old old.at) now.tries (scx_tries old old.at) now.tries → UpdateAnswers edit_means now c h a → InnerAnswers tries (Update now) c h (edit_reply now.edit.goal.goal a)
  edit_ends old now a run goes edit call limit end spends x = record {
    rests = x.0;
    spent = edit_spent c h now.edit.goal.goal now.edit.rule tries now.tries now.share
        (rw edit (edit_spends c (nodes_in_try old.edit.rule) old.share now.share tries (node_tries old old.at) now.tries (scx_tries old old.at) now.tries goes.spent (rw edit at spends) end))
        (subst (λ n. HasTriedAllBut c h n now.tries) (limit ∙ goes.limit) x.2);
    form = edit_form now.edit.goal.goal now.edit.rule a;
    says = edit_says tries c h now (rw edit goes.mode) (dict_mode c.layout.mode old.edit.goal.balance goes.mode, run) (rw edit goes.small) a (call ∙ goes.number) (limit ∙ goes.limit) x.1;
  }

  pub get_ends : (key : ℕ) (walk : WalkRun) (share : Remaining) (f : Found) → key < 2 ^ 64 → HasRested c h share → RestsWith c c.start share → FoundBy walk.way (ToKey key) c h f → tries_begun c.pass h ≤ suc (tries_begun c.pass c.start) → InnerAnswers tries (Get key walk share) c h (WordReply.Value f.value)
  get_ends key walk share f small x spent found once = record { rests = x.now; spent = read_spent c h (GetOf key) tries share spent (tried_one c.layout c.pass h c.start once); form = tt; says = get_says tries c h key walk.way share f small x found }

  pub read_ends : (k : ReadKind) (is : IsReadKind k) (now : ReadRun k.R) (share : Remaining) (a : Result k.A Refused) → HasRested c h share → RestsWith c c.start share → now.limit ≡ tries → ReadAnswers k.means now c h a → InnerAnswers tries (Read k now share) c h (read_reply k.tells a)
  read_ends k is now share a x spent limit y = record { rests = x.now; spent = read_spent c h (k.means.call now.read) tries share spent (subst (HasTriedAtMost c.layout c.pass h c.start) (limit ∙ sym (is.tries now.read tries)) y.2); form = is.form now.read a; says = read_says tries c h k is now share x limit a y }

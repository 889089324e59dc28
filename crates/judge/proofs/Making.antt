-- One more lawful row.
use Rattle.std.proofs.Common.{◌≡◌, ℕ, ◌+◌, cond, ◌++◌, List, vec_len, true, refl, sym, ◌∙◌, arith, subst, slice_set}
use Rattle.histories.specs.Common.{Layout, Row, History, Start, ◌⊳◌, Lawful, IsLawful, IsChanged, count_of}
use Rattle.histories.proofs.Lemmas.{lawful_more}
use Rattle.judge.specs.Histories.{history_of_rows}
use Rattle.judge.specs.Graph.{links_of}
use Rattle.judge.specs.Naming.{IsNaming, NamingStands, word_links, named_links}
use Rattle.judge.specs.Uses.{fields_after, users_after}
use Rattle.judge.specs.Freezing.{frozen_after, FreezingStands}
use Rattle.judge.specs.Enters.{makes_entry}
use Rattle.judge.specs.Entering.{holder_in, plan_in, last_after, finals_after}
use Rattle.judge.specs.Taking.{takes_node, takes_scx, one_more}
use Rattle.judge.specs.StandsFor.{StandsFor}
use Rattle.judge.specs.declared.naming.Naming.{Naming}
use Rattle.judge.specs.declared.judge.Judge.TheInside.{Inside}
use Rattle.judge.proofs.Used.{uses_more}
use Rattle.judge.proofs.Frozen.{frozen_more}
use Rattle.judge.proofs.Entered.{entering_more}
use Rattle.judge.proofs.Taken.{taking_more}
use Rattle.judge.proofs.Words.{words_more}

-- what the row has changed of what is remembered
pub record IsMade (lay : Layout) (r : Row) (old new : Inside) : Type 0 where
  pub naming : IsNaming new.naming
  pub nodes : new.naming.nodes ≡ old.naming.nodes
  pub scxs : new.naming.scxs ≡ old.naming.scxs
  pub links : links_of new.naming.graph ≡ word_links old.naming.nodes old.naming.scxs r.word r.after ++ links_of old.naming.graph
  pub fields : new.uses.in_field.items ≡ fields_after r.word r.after old.uses.in_field.items
  pub users : new.uses.users.items ≡ users_after r.word r.after old.uses.users.items
  pub frozen : new.freezing.frozen.items ≡ frozen_after r old.freezing.frozen.items
  pub entries : new.entering.entries ≡ cond (makes_entry r) (old.entering.entries + 1) old.entering.entries
  pub won : new.entering.won.items ≡ cond (makes_entry r) (slice_set old.entering.won.items (holder_in old.words r.word) true) old.entering.won.items
  pub last : new.entering.last.items ≡ cond (makes_entry r) (last_after old.words (holder_in old.words r.word) (count_of (plan_in old.words (holder_in old.words r.word))) (old.entering.entries + 1) old.entering.last.items) old.entering.last.items
  pub finals : new.entering.finals.items ≡ cond (makes_entry r) (finals_after old.words (holder_in old.words r.word) (count_of (plan_in old.words (holder_in old.words r.word))) old.entering.finals.items) old.entering.finals.items
  pub taken_nodes : new.taking.nodes.items ≡ cond (takes_node lay r.pass.0 r.kind r.word old.taking.nodes.items) (one_more old.taking.nodes.items r.pass.0) old.taking.nodes.items
  pub taken_scx : new.taking.scx.items ≡ cond (takes_scx lay r.pass.0 r.kind r.word old.taking.scx.items) (one_more old.taking.scx.items r.pass.0) old.taking.scx.items
  pub taken_all : new.taking.all_nodes ≡ cond (takes_node lay r.pass.0 r.kind r.word old.taking.nodes.items) (old.taking.all_nodes + 1) old.taking.all_nodes
  pub words : IsChanged old.words new.words r.word r.after
  pub loaded : vec_len new.loaded ≡ vec_len old.loaded

naming_more : (lay : Layout) (h : History) (r : Row) (old new : Naming) → NamingStands lay h old → IsNaming new → new.nodes ≡ old.nodes → new.scxs ≡ old.scxs → links_of new.graph ≡ word_links old.nodes old.scxs r.word r.after ++ links_of old.graph → NamingStands lay (r ⊳ h) new
unfolding named_links
naming_more lay h r old new s n a b e = record {
  naming = n;
  nodes = a ∙ s.nodes;
  scxs = b ∙ s.scxs;
  links = e ∙ rw (s.nodes, s.scxs, s.links) refl;
}

pub naming_kept : (lay : Layout) (h : History) (old new : Naming) → NamingStands lay h old → IsNaming new → new.nodes ≡ old.nodes → new.scxs ≡ old.scxs → links_of new.graph ≡ links_of old.graph → NamingStands lay h new
naming_kept lay h old new s n a b e = record { naming = n; nodes = a ∙ s.nodes; scxs = b ∙ s.scxs; links = e ∙ s.links }

pub stands_more : (lay : Layout) (h : History) (r : Row) (old new : Inside) → old.words.layout ≡ lay → StandsFor lay h old → IsLawful lay h r → IsMade lay r old new → StandsFor lay (r ⊳ h) new
stands_more lay h r old new table s x m =
    let lawful = lawful_more lay h r s.lawful x in
    record {
      lawful = lawful;
      words = words_more lay h r old.words new.words table x.word s.words m.words;
      naming = naming_more lay h r old.naming new.naming s.naming m.naming m.nodes m.scxs m.links;
      uses = uses_more lay h r old.uses new.uses s.uses m.fields m.users;
      freezing = subst (λ (ns : List ℕ). FreezingStands lay (r ⊳ h) ns) (sym m.frozen) (frozen_more lay h r old.freezing.frozen.items lawful s.freezing);
      entering = entering_more lay h r lawful old.words table s.words old.entering new.entering s.entering m.entries m.won m.last m.finals;
      taking = taking_more lay h r lawful old.taking new.taking s.taking m.taken_nodes m.taken_scx m.taken_all;
      loaded = m.loaded ∙ s.loaded;
    }

-- what the steps of the code ask

-- where a table and its rows are known by other names
pub stands_at : (lay : Layout) (rows : List Row) (j : Inside) → j.words.layout ≡ lay → j.past ≡ rows → StandsFor lay (history_of_rows lay.mode rows) j → StandsFor j.words.layout (history_of_rows j.words.layout.mode j.past) j
stands_at lay rows j e f s = subst (λ (l : Layout). StandsFor l (history_of_rows l.mode j.past) j) (sym e) (subst (λ (rs : List Row). StandsFor lay (history_of_rows lay.mode rs) j) (sym f) s)

pub lawful_start : (lay : Layout) → Lawful lay (Start lay.mode)
unfolding Lawful
lawful_start lay = (refl, omega arith)

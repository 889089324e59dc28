-- What is left of a share, as records say it.
use Rattle.std.proofs.Common.{◌≡◌, ℕ, ◌+◌, ◌<◌, refl, sym, ◌∙◌, arith}
use Rattle.histories.specs.Common.{Layout, Resource, Nodes, History, Remaining, first_node, first_scx}
use Rattle.arena.specs.declared.fault.Resource.TheVariants.{Scx as ScxRecords}
use Rattle.arena.specs.Share.{IsFullOf}
use Rattle.prims.specs.Shares.{IsShare, IsUpperEnd}
use Rattle.prims.proofs.Lemmas.{upper_end}
use Rattle.record.specs.Shares.{HasNodesLeft, HasScxLeft, HasTooFew}
use Rattle.dict.specs.Says.{HasTooLittle}

module _ (lay : Layout) (h : History) (c : ℕ) (left : Remaining) (share : IsShare lay h c left left.next_node left.next_scx) (upper : IsUpperEnd lay c left) where
  to_node : left.next_node + left.nodes ≡ first_node lay c + lay.nodes
  to_node = (upper_end lay c left upper).0

  to_scx : left.next_scx + left.scx ≡ first_scx lay c + lay.scx
  to_scx = (upper_end lay c left upper).1

  -- its nodes are the last ones
  pub nodes_left : HasNodesLeft lay c h left.nodes
  nodes_left = record {
    within = let a = share.from_node in let b = to_node in omega (arith, a, b);
    taken = λ n own i. share.taken_nodes n own (let b = to_node in omega (arith, i, b));
    untaken = λ n own i. share.untaken_nodes n own (let b = to_node in omega (arith, i, b));
  }

  -- and so its SCX-records
  pub scx_left : HasScxLeft lay c h left.scx
  scx_left = record {
    within = let a = share.from_scx in let b = to_scx in omega (arith, a, b);
    taken = λ s own i. share.taken_scx s own (let b = to_scx in omega (arith, i, b));
    untaken = λ s own i. share.untaken s own (let b = to_scx in omega (arith, i, b));
  }

  -- a share with fewer nodes than an update needs
  few_nodes : (needed k : ℕ) → left.nodes < needed → k ≡ left.nodes → HasTooFew lay c h needed Nodes k
  few_nodes needed k i e = rw e (i, nodes_left)

  -- or with some, and without an SCX-record
  few_scx : (needed k : ℕ) → 0 < left.nodes → left.scx ≡ 0 → k ≡ 0 → HasTooFew lay c h needed ScxRecords k
  few_scx needed k i none e = rw e (refl, rw none at scx_left, (left.nodes, i, nodes_left))

  -- one that an SCX finds full
  pub full_left : (what : Resource) (k : ℕ) → IsFullOf left what k → HasTooFew lay c h 1 what k
  full_left Nodes k x = few_nodes 1 k (let z = x.0 in omega (arith, z)) (x.1 ∙ sym x.0)
  full_left ScxRecords k x = few_scx 1 k x.0 x.1 x.2

  -- one that an edit finds too small
  pub short_left : (needed : ℕ) (what : Resource) (k : ℕ) → HasTooLittle needed left what k → HasTooFew lay c h needed what k
  short_left needed Nodes k x = few_nodes needed k x.0 x.1
  short_left needed ScxRecords k x = few_scx needed k x.0 x.1 x.2

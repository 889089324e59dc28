-- What a graph of names says of a history.
use Rattle.std.proofs.Common.{◌≡◌, ◌↔◌, ℕ, ◌+◌, ◌*◌, ◌<◌, Bool, IsTrue, List, refl, sym, subst}
use Rattle.histories.specs.Common.{Layout, all_nodes, History, IsNamed, IsNamedScx, IsInField, Lawful}
use Rattle.judge.specs.Graph.{IsReached, links_of}
use Rattle.judge.specs.Naming.{NamingStands, named_links}
use Rattle.judge.specs.declared.naming.Naming.{Naming}
use Rattle.judge.proofs.Names.{node_named, named_node, node_shown, shown_reached, scx_named, named_scx}

module _ (lay : Layout) (h : History) (n : Naming) (lawful : Lawful lay h) (s : NamingStands lay h n) where
  -- the place by the layout, and the links by the history
  there : (p q : ℕ) → p ≡ q → IsReached (links_of n.graph) p → IsReached (named_links lay h) q
  there p q e r = subst (λ (k : ℕ). IsReached (named_links lay h) k) e (subst (λ (ls : List (ℕ × ℕ)). IsReached ls p) s.links r)

  back : (p q : ℕ) → p ≡ q → IsReached (named_links lay h) p → IsReached (links_of n.graph) q
  back p q e r = subst (λ (k : ℕ). IsReached (links_of n.graph) k) e (subst (λ (ls : List (ℕ × ℕ)). IsReached ls p) (sym s.links) r)

  pub node_asked : (m : ℕ) (b : Bool) → m < all_nodes lay → IsTrue b ↔ IsReached (links_of n.graph) m → IsTrue b ↔ IsNamed lay h m
  node_asked m b l p = (λ t. node_named lay h lawful m l (there m m refl (p.0 t)), λ q. p.1 (back m m refl (named_node lay h lawful m l q)))

  pub shown_inside : (m : ℕ) (b : Bool) → IsTrue b ↔ ((m < n.nodes) × IsReached (links_of n.graph) (n.nodes + m)) → m < all_nodes lay → IsInField lay h m → IsTrue b
  shown_inside m b p l q = p.1 (rw s.nodes l, back (all_nodes lay + m) (n.nodes + m) (rw s.nodes refl) (shown_reached lay h lawful m l q))

  pub shown_asked : (m : ℕ) (b : Bool) → IsTrue b ↔ ((m < n.nodes) × IsReached (links_of n.graph) (n.nodes + m)) → IsTrue b → IsInField lay h m
  shown_asked m b p t =
      let r = p.0 t in
      node_shown lay h lawful m (rw (← s.nodes) (r.0)) (there (n.nodes + m) (all_nodes lay + m) (rw s.nodes refl) r.1)

  pub scx_asked : (u : ℕ) (b : Bool) → IsTrue b ↔ ((u < n.scxs) × IsReached (links_of n.graph) (2 * n.nodes + u)) → IsTrue b ↔ IsNamedScx h u
  scx_asked u b p = (
    λ t. scx_named lay h lawful u (there (2 * n.nodes + u) (2 * all_nodes lay + u) (rw s.nodes refl) (p.0 t).1),
    λ q. let r = named_scx lay h lawful u q in p.1 (rw s.scxs r.0, back (2 * all_nodes lay + u) (2 * n.nodes + u) (rw s.nodes refl) r.1),
  )

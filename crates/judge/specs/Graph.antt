-- Places, and which of them links lead to.
use Rattle.std.specs.Prelude.{◌≡◌, ℕ, ◌+◌, ◌<◌, ◌≤◌, ◌⊎◌, Bool, true, false, if◌then◌else◌, Option, Some, None, IfSome, List, [], ◌∷◌, length, slice_index_or, vec_len}
use Rattle.std.specs.Vec.{vec_capacity}
use Rattle.judge.specs.declared.graph.Link.{Link}
use Rattle.judge.specs.declared.graph.LinkList.{LinkList}
use Rattle.judge.specs.declared.graph.LinkList.TheVariants.{Nothing, Newer'}
use Rattle.judge.specs.declared.graph.Graph.{Graph}

-- Links

-- the links, each as the places from which and to which it leads, the newest first
abbrev pub links_in : LinkList → List (ℕ × ℕ)
links_in Nothing = []
links_in (Newer' u v marker before) = (u, v) ∷ links_in before

-- one of the links leads from u to v
abbrev pub IsLink : List (ℕ × ℕ) → ℕ → ℕ → Type 0
IsLink [] u v = ⊥
IsLink (l ∷ links) u v = ((l.0 ≡ u) × (l.1 ≡ v)) ⊎ IsLink links u v

-- the links lead from place 0 to the place
pub data IsReached (links : List (ℕ × ℕ)) : ℕ → Type 0 where
  first : IsReached links 0
  along : {v : ℕ} (u : ℕ) → IsReached links u → IsLink links u v → IsReached links v

-- What a graph keeps

-- all links that were ever made
abbrev pub links_of : Graph → List (ℕ × ℕ)
links_of g = links_in g.all.value

-- whether a place has its flag
abbrev pub has_flag : List Bool → ℕ → Bool
has_flag flags v = slice_index_or flags v false

-- how many places have no flag
abbrev pub count_unset : List Bool → ℕ
count_unset [] = 0
count_unset (b ∷ flags) = if b then count_unset flags else 1 + count_unset flags

-- where the newest link that is kept of a place is
abbrev pub newest_from : List (Option ℕ) → ℕ → Option ℕ
newest_from newest u = slice_index_or newest u None

-- this link is there in the list
pub record IsLinkAt (list : List Link) (i : ℕ) (l : Link) : Type 0 where
  pub within : i < length list
  pub is : l ≡ slice_index_or list i l

-- a link to v is among the one that is there and those before it from the same place
pub data HasLink (list : List Link) (v : ℕ) : Option ℕ → Type 0 where
  here : (i : ℕ) (l : Link) → IsLinkAt list i l → l.to ≡ v → HasLink list v (Some i)
  older : (i : ℕ) (l : Link) → IsLinkAt list i l → HasLink list v l.before → HasLink list v (Some i)

-- the place is among those whose links are not followed yet
pub record IsUnfollowed (fresh : List ℕ) (u : ℕ) : Type 0 where
  pub index : ℕ
  pub within : index < length fresh
  pub is : slice_index_or fresh index 0 ≡ u

-- there is room for each place that may still be reached
abbrev pub HasRoomLeft : Graph → Type 0
HasRoomLeft g = vec_len g.fresh + count_unset g.reached.items ≤ vec_capacity g.fresh

-- while links are followed: of the place `from` those from the one at `at` on are left, and all of
-- the fresh places
pub record IsSpreading (reached : List Bool) (newest : List (Option ℕ)) (list : List Link) (fresh : List ℕ) (links : List (ℕ × ℕ)) (from : ℕ) (at : Option ℕ) : Type 0 where
  pub flagged : has_flag reached 0 ≡ true
  pub sound : (v : ℕ) → has_flag reached v ≡ true → IsReached links v
  pub inside : (u v : ℕ) → IsLink links u v → (u < length reached) × (v < length reached)
  -- each link is followed, or kept
  pub kept : (u v : ℕ) → IsLink links u v → (has_flag reached v ≡ true) ⊎ HasLink list v (newest_from newest u)
  pub chained : (u v : ℕ) → HasLink list v (newest_from newest u) → IsLink links u v
  -- what is kept of a place that is reached is followed, or still to be
  pub closed : (u v : ℕ) → has_flag reached u ≡ true → HasLink list v (newest_from newest u) → (has_flag reached v ≡ true) ⊎ (IsUnfollowed fresh u ⊎ ((u ≡ from) × HasLink list v at))
  -- a link comes after the one before it of the same place
  pub rising : (i : ℕ) (l : Link) → IsLinkAt list i l → IfSome l.before (λ b. b < i)
  pub ends : (u : ℕ) → IfSome (newest_from newest u) (λ i. i < length list)
  pub starts : IfSome at (λ i. i < length list)
  pub left : (v : ℕ) → HasLink list v at → IsLink links from v
  pub origin : IsReached links from
  pub waiting : (u : ℕ) → IsUnfollowed fresh u → (u < length reached) × IsReached links u

-- the same of a graph's lists
abbrev pub Spreads : Graph → ℕ → Option ℕ → Type 0
Spreads g from at = IsSpreading g.reached.items g.newest.items g.links.items g.fresh.items (links_of g) from at

-- a graph at rest: the flags say which places the links lead to
pub record IsGraph (g : Graph) : Type 0 where
  pub sizes : length g.newest.items ≡ length g.reached.items
  pub spread : IsSpreading g.reached.items g.newest.items g.links.items [] (links_of g) 0 None
  pub none_fresh : g.fresh.items ≡ []
  pub room : HasRoomLeft g

-- the links that are kept, and those that were ever made, are the same
pub record KeepsLinks (old new : Graph) : Type 0 where
  pub newest : new.newest ≡ old.newest
  pub links : new.links ≡ old.links
  pub all : new.all ≡ old.all

-- the graph has one link more, from one of its places to another
pub record HasOneLinkMore (old new : Graph) (from to : ℕ) : Type 0 where
  pub graph : IsGraph new
  pub size : length new.reached.items ≡ length old.reached.items
  pub all : links_of new ≡ (from, to) ∷ links_of old

-- this many links may still be kept without a growth
abbrev pub HasSpare : ℕ → Graph → Type 0
HasSpare k g = vec_len g.links + k ≤ vec_capacity g.links

-- What is held of a dictionary, a tree or a trie: a pass, and an owner of its forest.
use Rattle.std.specs.Prelude.{Bool, true, false}
use Rattle.std.specs.declared.sync.Arc.{Arc}
use Rattle.std.specs.Global.{Global}
use Rattle.tables.specs.Passes.{Ground, PassView}
use Rattle.capi.specs.declared.client.OwnedPass.{OwnedPass}
use Rattle.capi.specs.declared.client.OwnedPass.TheVariants.{LastingTree, LastingTrie, Tree, Trie}

-- the owner
abbrev pub owner_of : OwnedPass → Arc Ground Global
owner_of (Tree held) = held.forest
owner_of (Trie held) = held.forest
owner_of (LastingTree held) = held.forest
owner_of (LastingTrie held) = held.forest

-- the pass
abbrev pub pass_of : OwnedPass → PassView
pass_of (Tree held) = held.pass
pass_of (Trie held) = held.pass
pass_of (LastingTree held) = held.pass
pass_of (LastingTrie held) = held.pass

-- whether it is a trie
abbrev pub in_trie : OwnedPass → Bool
in_trie (Tree held) = false
in_trie (Trie held) = true
in_trie (LastingTree held) = false
in_trie (LastingTrie held) = true

-- whether its records come back
abbrev pub lasts : OwnedPass → Bool
lasts (Tree held) = false
lasts (Trie held) = false
lasts (LastingTree held) = true
lasts (LastingTrie held) = true

-- What an ordered read finds.
use Rattle.std.proofs.Common.{ℕ}
use Rattle.histories.specs.Common.{Step, History, Extends, Call, begun_at}
use Rattle.arena.proofs.Lemmas.{ends_trans}
use Rattle.ordered_map.specs.TreeShape.{TreeAllows}
use Rattle.template.specs.Walk.Places.{IsPastRoot}
use Rattle.template.specs.declared.walk.WalkAt.{WalkAt}
use Rattle.template.specs.declared.walk.WalkAt.TheVariants as walks
use Rattle.template.proofs.Lemmas.{own_since}
use Rattle.order.specs.Known.{ReadGoes, ReadWaitsAt, ReadWaits, StandsInTry, WalksInTry}
use Rattle.order.specs.Loads.{load_node}
use Rattle.order.specs.Meaning.{ReadMeaning}
use Rattle.order.specs.Near.{NearKnows}
use Rattle.order.specs.Next.{MayLoad}
use Rattle.order.specs.Reads.{HasStood}
use Rattle.order.specs.declared.last_turns.LastTurns.{LastTurns}
use Rattle.order.specs.declared.load.ReadLoad.{ReadLoad}
use Rattle.order.specs.declared.load.ReadLoad.TheVariants as loads
use Rattle.order.specs.declared.near.NearRun.{NearRun}
use Rattle.order.specs.declared.run.ReadAt.{ReadAt}
use Rattle.order.specs.declared.run.ReadAt.TheVariants.{Start, Walk, Near, Root, Load, Look, Validate}
use Rattle.order.specs.declared.run.ReadRun.{ReadRun}
use Rattle.touching.specs.Touches.{WereSo}
use Rattle.touching.proofs.Finding.{Finds, found_so}
use Rattle.touching.proofs.Moments.{been_wider}
use Rattle.touching.proofs.OwnScx.{InTree}
use Rattle.touching.proofs.Present.{in_tree_kind}
use Rattle.touching.proofs.Standing.{WasThere}
use Rattle.touching.proofs.Walks.{root_so, walk_in_call}
use Rattle.touching.proofs.Looking.{llx_in_call}
use Rattle.touching.proofs.Changing.{vlx_in_call}

-- what a read comes to was there
stood_there : (c : Call) (h : History) (n : ℕ) → HasStood c h n → WasThere c h n
stood_there c h n x = let s = x.stood in record { moment = s.moment; within = s.within; since = x.in_call; was = record { tree = s.tree; is_tree = s.is_tree; has = s.has } }

-- so was the leaf that it searches
near_there : (c : Call) (h : History) (near : NearRun) → NearKnows near c h → WasThere c h near.node.0
near_there c h near x =
    let s = x.stood.0 in
    record { moment = s.moment; within = ends_trans h x.moment s.moment x.within s.within; since = ends_trans s.moment x.first c.start x.stood.1 (own_since c x.first x.own); was = record { tree = s.tree; is_tree = s.is_tree; has = s.has } }

module _ {R A : Type 0} (means : ReadMeaning R A) (m : ReadRun R) (c : Call) (h begin : History) where
  abbrev try : Call
  try = begun_at c begin

  -- past the root its try has begun in the call
  walk_since : (turns : LastTurns) (at : WalkAt) → IsPastRoot at → WalksInTry means m c h begin turns at → Extends begin c.start
  walk_since turns walks.Start p x = absurd p
  walk_since turns walks.Root p x = absurd p
  walk_since turns (walks.Head above) p x = x.begins.since
  walk_since turns (walks.Key head) p x = x.begins.since
  walk_since turns (walks.Child low side) p x = x.begins.since
  walk_since turns (walks.More head) p x = x.begins.since
  walk_since turns (walks.Pair head more slot) p x = x.begins.since
  walk_since turns (walks.Value head more slot key) p x = x.begins.since
  walk_since turns (walks.High head more slot key low) p x = x.begins.since

  -- and by now the call has
  walk_now : (turns : LastTurns) (at : WalkAt) → Extends h begin → WalksInTry means m c h begin turns at → Extends h c.start
  walk_now turns walks.Root e x = x.0.0.since
  walk_now turns walks.Start e x = ends_trans h begin c.start e x.begins.since
  walk_now turns (walks.Head above) e x = ends_trans h begin c.start e x.begins.since
  walk_now turns (walks.Key head) e x = ends_trans h begin c.start e x.begins.since
  walk_now turns (walks.Child low side) e x = ends_trans h begin c.start e x.begins.since
  walk_now turns (walks.More head) e x = ends_trans h begin c.start e x.begins.since
  walk_now turns (walks.Pair head more slot) e x = ends_trans h begin c.start e x.begins.since
  walk_now turns (walks.Value head more slot key) e x = ends_trans h begin c.start e x.begins.since
  walk_now turns (walks.High head more slot key low) e x = ends_trans h begin c.start e x.begins.since

  -- what it loads a word of has stood
  loaded : (of : ReadLoad) → MayLoad means m.read m.snaps.items try h of → HasStood try h (load_node of).0
  loaded (loads.Head above n) x = x.0.stood
  loaded (loads.Key low n) x = x.stands.stood
  loaded (loads.More n) x = x.stood
  loaded (loads.Pair p) x = x.stood
  loaded (loads.Value p key) x = x.stands.stood
  loaded (loads.High p key low) x = x.0.stands.stood

  -- and so was there in the call
  stood_node : Extends begin c.start → (n : ℕ) → HasStood try h n → WasThere c h n
  stood_node e n x = been_wider h begin c.start _ e (stood_there try h n x)

  read_at : (at : ReadAt) (s : Step) → ReadGoes means m try h → StandsInTry means m c h begin at → ReadWaitsAt means m try h s at → Finds InTree c h s.word
  read_at Start s g i k = absurd k
  read_at (Walk walk side turns) s g i k = walk_in_call InTree in_tree_kind c begin h k.1.run walk (walk_now turns walk.at k.1.since i) s (λ past. walk_since turns walk.at past i) k.1
  read_at (Near near children fork) s g i k = rw k.1 (found_so (been_wider h begin c.start _ i.begins.since (near_there try h near k.0.search.1)))
  read_at Root s g i k = rw k.1 (found_so (root_so InTree in_tree_kind c h g.reads.run i.0.since))
  read_at (Load of) s g i k = rw k.1 (found_so (stood_node i.begins.since (load_node of).0 (loaded of k.0)))
  read_at (Look children low llx) s g i k =
      let x = k.1 in
      llx_in_call InTree TreeAllows c x.0 h llx s g.reads.run.1 (ends_trans x.0 begin c.start x.1 i.begins.since) x.2 (stood_node i.begins.since llx.node.0 k.0.stood)
  read_at (Validate asked) s g i k = vlx_in_call InTree m.snaps.items asked c k.0 h s k.2 so
    where
      so : WereSo InTree c h m.snaps.items
      so j p =
          let u = k.1.reads.snapped j p in
          let w = u.stood in
          record {
            moment = w.moment;
            within = ends_trans h u.moment w.moment (ends_trans h k.0 u.moment k.1.within u.within) w.within;
            since = ends_trans w.moment begin c.start u.in_call i.begins.since;
            was = record { tree = w.tree; is_tree = w.is_tree; has = w.has };
          }

pub read_finds : {R A : Type 0} (means : ReadMeaning R A) (m : ReadRun R) (c : Call) (h : History) (s : Step) → ReadWaits means m c h s → Finds InTree c h s.word
read_finds means m c h s w = read_at means m c h w.0 m.at s w.2 w.1 w.3

use Rattle.arena.proofs.Lemmas.{ends_self}
use Rattle.edits.proofs.Undisturbed.{alone_made, alone_made_end, alone_found, alone_found_end, alone_keeps, alone_reads, never_contended, one_never_contended}
use Rattle.edits.proofs.alone.alone_holds.Goals as goal

pub returns-clause-made : goal.returns-clause-made
returns-clause-made f c h edit number old map run alone x spells = alone_made c h run alone edit number old map x spells

pub returns-clause-found : goal.returns-clause-found
returns-clause-found g c h k f map small run alone found none spells = alone_found c h run alone k f map small found none spells

pub returns-clause-made_end : goal.returns-clause-made_end
returns-clause-made_end g side c h edit number old f map run alone made told spells = alone_made_end c h run alone edit number old map made spells side f told

pub returns-clause-found_end : goal.returns-clause-found_end
returns-clause-found_end g side c h f map run alone found sure none spells = alone_found_end c h run alone side f map found sure none spells

pub returns-clause-read : goal.returns-clause-read
returns-clause-read g c h k told map run alone x none spells = alone_reads c h run alone k told map x none spells

pub returns-clause-kept : goal.returns-clause-kept
returns-clause-kept f c h map run alone none spells = alone_keeps c h run alone h map (ends_self h) alone.since none spells

pub returns-clause-undisturbed : goal.returns-clause-undisturbed
returns-clause-undisturbed f c h n s run alone x = never_contended c h run alone n s x

pub returns-clause-one_pass : goal.returns-clause-one_pass
returns-clause-one_pass f c h n s one x = one_never_contended c h n s one x

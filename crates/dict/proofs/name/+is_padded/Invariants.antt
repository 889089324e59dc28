use Rattle.std.proofs.Common.{length}
use Rattle.dict.proofs.name.+is_padded.Given as goal

abbrev pub decreases-is_padded : goal.decreases-is_padded
decreases-is_padded l = length l.bytes.now

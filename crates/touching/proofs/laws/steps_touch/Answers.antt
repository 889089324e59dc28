use Rattle.touching.proofs.Putting.{row_puts}
use Rattle.touching.proofs.Stepping.{call_touches}
use Rattle.touching.proofs.Storing.{row_stores}
use Rattle.touching.proofs.Untaken.{row_fills}
use Rattle.touching.proofs.laws.steps_touch.Goals as goal

pub returns-clause-touches : goal.returns-clause-touches
returns-clause-touches g = call_touches

pub returns-clause-stores : goal.returns-clause-stores
returns-clause-stores g = row_stores

pub returns-clause-fresh : goal.returns-clause-fresh
returns-clause-fresh g = row_puts

pub returns-clause-fills : goal.returns-clause-fills
returns-clause-fills g = row_fills

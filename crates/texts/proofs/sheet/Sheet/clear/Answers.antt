use Rattle.std.proofs.Common.{arith, length-take-le}
use Rattle.texts.proofs.sheet.Sheet.clear.Goals as goal

pub returns-clause-room : goal.returns-clause-room
returns-clause-room c =
    let within = c.args.self.now.within in
    let all = c.args.self.now.bytes.ok.0 in
    let text = length-take-le c.args.self.now.end c.args.self.now.bytes.items (omega (arith, within, all)) in
    omega (arith, within, all, text)

use Rattle.std.proofs.Common.{IsUtf8, arith, subst}
use Rattle.texts.proofs.SheetTexts.{resized_text}
use Rattle.texts.proofs.sheet.Sheet.grow.Goals as goal

pub invariant_of-self-clause-utf8 : goal.invariant_of-self-clause-utf8
invariant_of-self-clause-utf8 c = subst (λ text. ∥ IsUtf8 text ∥₁) (resized_text c.resize.result _ _ c.args.self.now.end c.max-wanted.result _ (omega (arith, c.args.self.now.within, c.max-wanted.ensures)) (omega (arith, c.args.self.now.within, c.args.self.now.bytes.ok.0)) c.resize.ensures.items) c.args.self.now.utf8

use Rattle.dict.proofs.Undisturbed.{told_alone, full_alone, full_by_one, was_contended}
use Rattle.dict.proofs.alone.alone_holds.Goals as goal

pub returns-clause-told : goal.returns-clause-told
returns-clause-told g = λ c h call told map run alone s x. told_alone (λ d k edit number old map run. g.alone_holds.ensures.made d k edit number old map run) (λ d k map run. g.alone_holds.ensures.kept d k map run) c h map run alone s call told x

pub returns-clause-refused : goal.returns-clause-refused
returns-clause-refused g = λ c h map run alone s none. g.alone_holds.ensures.kept c h map run alone none s

pub returns-clause-undisturbed : goal.returns-clause-undisturbed
returns-clause-undisturbed g = λ c h call tries n s run alone x. g.alone_holds.ensures.undisturbed c h n s run alone (was_contended c h call tries n s x)

pub returns-clause-one_pass : goal.returns-clause-one_pass
returns-clause-one_pass g = λ c h call tries n s one x. g.alone_holds.ensures.one_pass c h n s one (was_contended c h call tries n s x)

pub returns-clause-full : goal.returns-clause-full
returns-clause-full g = λ c h call share full map run alone s x. full_alone (λ d k edit number old map run. g.alone_holds.ensures.made d k edit number old map run) (λ d k map run. g.alone_holds.ensures.kept d k map run) c h map run alone s (λ n t. g.alone_holds.ensures.undisturbed c h n t run alone) call share full x

pub returns-clause-one_pass_full : goal.returns-clause-one_pass_full
returns-clause-one_pass_full g = λ c h call share full one x. full_by_one c h call share full (λ n t. g.alone_holds.ensures.one_pass c h n t one) x

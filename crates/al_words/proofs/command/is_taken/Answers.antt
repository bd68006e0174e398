use Rattle.std.proofs.Common.{ap, ◌∙◌, subst, refl, map}
use Rattle.clap.specs.Words.{App, FailsBy, is_simple_and_free, fault_of}
use Rattle.al_words.specs.Apps.{whole_app}
use Rattle.al_words.proofs.Taken.{plain, taken_by, refused_by}
use Rattle.al_words.proofs.command.is_taken.Goals as goal

pub returns-in-Ok : goal.returns-in-Ok
returns-in-Ok c =
    let parse = c.try_get_matches_from in
    let fails : FailsBy (fault_of whole_app (map (λ w. w.now) c.args.words.now)) parse.result =
    subst (λ (a : App). FailsBy (fault_of a (map (λ w. w.now) c.args.words.now)) parse.result) c.requires (parse.ensures.kinds (ap is_simple_and_free c.requires ∙ plain)) in
    (λ t. taken_by _ parse.result _ c.in-Ok.is fails, λ e. refl)

pub returns : goal.returns
returns c =
    let parse = c.try_get_matches_from in
    let fails : FailsBy (fault_of whole_app (map (λ w. w.now) c.args.words.now)) parse.result =
    subst (λ (a : App). FailsBy (fault_of a (map (λ w. w.now) c.args.words.now)) parse.result) c.requires (parse.ensures.kinds (ap is_simple_and_free c.requires ∙ plain)) in
    (λ t. cc, λ e. absurd (refused_by _ parse.result c.in-Err.error c.in-Err.is fails (λ k. c.in_default.not-OutOfMemory (c.kind.ensures ∙ k)) e))

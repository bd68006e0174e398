use Rattle.std.proofs.Common.{ap, codes, ◌∙◌}
use Rattle.al_answers.specs.Json.{put_json}
use Rattle.al_answers.specs.Objects.{vote_of}
use Rattle.al_answers.proofs.account.account.Goals as goal

pub returns : goal.returns
returns c =
    let before = c.in_ok-map.ensures in
    c.in_ok-put_vote.ensures ∙ ap (λ ms. put_json (codes "vote") (vote_of c.args.r.now.status c.args.r.now) ms) (simp (c.min_balance.ensures, c.pending_of.ensures, c.status_text.ensures) at before)

use Rattle.std.proofs.Common.{ap, ◌∙◌, ◌++◌, nat_eq}
use Rattle.measure_terms.specs.Texts.{header}
use Rattle.measuring.proofs.TextSteps.{three}
use Rattle.measuring.proofs.text.put_header.Goals as goal

pub returns : goal.returns
returns g c =
    let old = c.args.csv.now in
    let first = c.in_ok-put.ensures ∙ ap (λ t. old ++ t) (c.header.ensures ∙ ap (λ n. header (nat_eq n 2)) c.DIM.ensures) in
    three _ _ _ _ _ _ _ first c.in_ok-put_names.ensures c.in_ok-put-2.ensures

use Rattle.std.proofs.Common.{◌≡◌, ◌+◌, max, take, unwrap_or, option_map, sym, ap, ◌∙◌, arith}
use Rattle.std.specs.List.{reduce}
use Rattle.std.proofs.lemmas.Iterator.{YieldsList-from_slice}
use Rattle.std.proofs.lemmas.Iterator.Adapters.{option_map_id}
use Rattle.std.proofs.lemmas.Iterator.Consumers.{YieldsList-from_copied, max_from_yields_List}
use Rattle.solver.proofs.Sounding.{greatest_reduce, greatest_fold}
use Rattle.solver.proofs.rise.longest.longest.Goals as goal

pub returns : goal.returns
returns c =
    let first = take (c.args.events + 1) c.args.times.now in
    let found : option_map (λ x. x) c.max.result ≡ reduce max first = max_from_yields_List c.copied.result c.max.result c.max.ensures.ran (YieldsList-from_copied (YieldsList-from_slice first cc)) in
    c.unwrap_or.ensures ∙ ap (λ o. unwrap_or o 0) (sym (option_map_id c.max.result) ∙ found) ∙ greatest_reduce first ∙ greatest_fold c.args.times.now c.args.events (omega arith)

use Rattle.std.proofs.Common.{◌≡◌, map, length, get_or, sym, ◌∙◌, arith, rules, tests}
use Rattle.std.proofs.lemmas.List.{same_lists, get_or-map, length-map}
use Rattle.bus.specs.Source.{reset_source}
use Rattle.bus.proofs.BusLaws.{length_mapped}
use Rattle.mirror.proofs.setup.reset_all.Goals as goal

pub returns : goal.returns
returns c =
    let xs = c.args.before in
    let eight : length xs ≡ 8 = search (rules, length_mapped) in
    let long : length c.map.result ≡ 8 = c.map.ensures.items.long in
    same_lists c.map.result (map reset_source xs) (long ∙ sym (length-map xs reset_source ∙ eight)) (λ k d h.
    let w = c.map.ensures.items.at k d d (omega arith) in
    let one : get_or c.map.result k d ≡ reset_source (get_or xs k d) = search (rules, tests) in
    one ∙ sym (get_or-map reset_source xs k d d (omega arith)))

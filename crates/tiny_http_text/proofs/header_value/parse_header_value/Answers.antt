use Rattle.std.proofs.Common.{rules, ℕ, List, Bor, sym, subst, lit<}
use Rattle.std.proofs.lemmas.Iterator.{YieldsList-from_map_by}
use Rattle.std.proofs.lemmas.Iterator.Consumers.{map_from_collect, YieldsList-at}
use Rattle.std.proofs.lemmas.Iterator.Splits.{YieldsList-from_str_split}
use Rattle.std.proofs.lemmas.Result.{IfOk-weaker}
use Rattle.tiny_http_text.specs.Qualities.{ListsQualities}
use Rattle.tiny_http_text.specs.QualityReading.{element, qualities}
use Rattle.tiny_http_text.proofs.QualitiesLemmas.{lists-is}
use Rattle.tiny_http_text.proofs.header_value.parse_header_value.Goals as goal

abbrev seen : Bor (List ℕ) × ℕ → List ℕ × ℕ
seen e = (e.0.now, e.1)

pub returns : goal.returns
unfolding qualities
returns c =
    let road = map_from_collect c.collect.result c.collect.ensures.ran
    (YieldsList-from_map_by _ seen element
    (YieldsList-at c.map.ensures.source (YieldsList-from_str_split 44 c.args.value.now (lit< tt) c.split.ensures.text c.split.ensures.has_more c.split.ensures.pattern))
    c.map.ensures.closure (λ x r q k. search rules))
    in
    IfOk-weaker c.collect.result _ _ (λ items e. subst (ListsQualities c.args.value.now) (sym e) (lists-is c.args.value.now)) road

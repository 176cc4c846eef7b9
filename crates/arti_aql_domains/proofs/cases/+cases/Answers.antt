use Rattle.std.proofs.Common.{◌≡◌, ◌*◌, min, arith, rules}
use Rattle.arti_aql_domains.proofs.Capped.{more_product}
use Rattle.arti_aql_domains.proofs.cases.+cases.Goals as goal

pub product_of_cases-loop-part-preserved : goal.product_of_cases-loop-part-preserved
product_of_cases-loop-part-preserved t c =
    let made : c.min-product.result ≡ min 4097 (c.loop-part.product * c.cases.result) = search rules in
    record {
      few = omega (arith, made);
      value = more_product c.args.parts.now c.loop-part.part-index c.part-item.result _ c.loop-part.product c.cases.result c.min-product.result
          c.loop-part-test.true c.part-item.is c.cases.ensures made c.loop-part.invariant.value;
    }

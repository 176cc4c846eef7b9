use Rattle.std.proofs.Common.{◌≡◌, ℕ, Bool, List, map, Result, Ok, Err, sym, ap, ◌∙◌, subst}
use Rattle.std.specs.Prelude.{◌≢◌, IfOk, IfErr}
use Rattle.arti_query_model.specs.declared.fields.FieldId.{FieldId}
use Rattle.arti_query_model.specs.declared.fault.TypeFault.{TypeFault}
use Rattle.arti_query_model.specs.declared.fault.TypeFault.TheVariants.{Memory}
use Rattle.arti_query_model.specs.Outcome.{each}
use Rattle.arti_aql_domains.specs.Entries.{entry_view}
use Rattle.arti_aql_domains.specs.Sortable.{sorted_among}
use Rattle.arti_aql_domains.proofs.Named.{order_same}
use Rattle.arti_aql_domains.proofs.sorting.type_order.Goals as goal

pub returns-clause-typed : goal.returns-clause-typed
returns-clause-typed c =
    let shown = ap (map entry_view) c.as_slice.ensures.value ∙ c.in_ok-shown.ensures in
    let names = ap (λ (ns : List (List ℕ)). each (sorted_among (map entry_view c.as_slice.result.now) c.args.sort.now.descending) ns) c.as_slice-2.ensures in
    let same = order_same c.args.root c.args.includes.now c.args.sort.now.descending c.args.sort.now.fields (map entry_view c.as_slice.result.now) shown ∙ sym names in
    subst (λ (r : Result (List (FieldId × Bool)) TypeFault). IfOk c.type_fields.result (λ s. r ≡ Ok s.items)) (sym same) c.type_fields.ensures.typed

pub returns-clause-refused : goal.returns-clause-refused
returns-clause-refused c =
    let shown = ap (map entry_view) c.as_slice.ensures.value ∙ c.in_ok-shown.ensures in
    let names = ap (λ (ns : List (List ℕ)). each (sorted_among (map entry_view c.as_slice.result.now) c.args.sort.now.descending) ns) c.as_slice-2.ensures in
    let same = order_same c.args.root c.args.includes.now c.args.sort.now.descending c.args.sort.now.fields (map entry_view c.as_slice.result.now) shown ∙ sym names in
    subst (λ (r : Result (List (FieldId × Bool)) TypeFault). IfErr c.type_fields.result (λ f. f ≢ Memory → r ≡ Err f)) (sym same) c.type_fields.ensures.refused

use Rattle.std.proofs.Common.{◌≡◌, ◌<◌, ℕ, false, List, length, refl, sym, ap, subst, ◌∙◌, arith}
use Rattle.std.specs.Prelude.{All, IsErrOf, None, map, nat_le}
use Rattle.std.proofs.lemmas.Bool.Decides.{nat_tests}
use Rattle.arti_rows.specs.declared.rows.ItemRow.{ItemRow}
use Rattle.arti_aql_reply.specs.Rows.{facts_of_rows}
use Rattle.arti_aql_reply.specs.declared.fault.ReplyFault.TheVariants.{ReplyTooLarge}
use Rattle.arti_model.specs.Query.{Facts, all_in, facts_of, file_size, page, query_text, reply_text}
use Rattle.arti_model.specs.Decide as model
use Rattle.arti_rows.specs.Sizes.{most_reply}
use Rattle.arti_store.specs.Items.{items_in}
use Rattle.arti_store.specs.Store.{holding_of}
use Rattle.arti_service.specs.Queries.{IsWhole, key_over}
use Rattle.arti_service.proofs.Deploying.{same_as, too_large}
use Rattle.arti_service.proofs.Wholes.{rows_whole}
use Rattle.arti_service.proofs.query.decide_found.Goals as goal

le_false : (a b : ℕ) → b < a → nat_le a b ≡ false
le_false a b lt = grind (arith, nat_tests, lt)

pub returns-in-Ok-clause-decides : goal.returns-in-Ok-clause-decides
returns-in-Ok-clause-decides c = record {
  means = λ bytes whole.
      let v = c.args.store.now in
      let repo = c.args.repo.now in
      let rows : All (IsWhole bytes) c.items.result.now =
      subst (λ (l : List ItemRow). All (IsWhole bytes) l) (sym c.items.ensures.rows) (rows_whole bytes v.contents.kept whole v.rows c.items.ensures.files) in
      let facts : facts_of_rows c.deref.result.now ≡ map (facts_of file_size) (page file_size (all_in repo) (holding_of bytes v).repository) =
      ap facts_of_rows c.deref.ensures.value ∙ c.in_ok-rows.ensures bytes rows
      ∙ ap (λ (l : List ItemRow). map (facts_of file_size) (page file_size (all_in repo) (record { items = items_in bytes l }))) c.items.ensures.rows in
      let text : c.in-Ok.text.items ≡ query_text file_size (all_in repo) (holding_of bytes v).repository =
      c.in-Ok.ensures.text ∙ ap (reply_text 0 None) facts in
      same_as (model.Tells (model.json 200 c.in-Ok.text.items)) (key_over bytes v repo) (ap (λ (l : List ℕ). model.Tells (model.json 200 l)) text);
  may = record { status = refl; kept = tt };
}

pub returns-in-Err-ReplyTooLarge-clause-decides : goal.returns-in-Err-ReplyTooLarge-clause-decides
returns-in-Err-ReplyTooLarge-clause-decides c = record {
  means = λ bytes whole.
      let v = c.args.store.now in
      let repo = c.args.repo.now in
      let rows : All (IsWhole bytes) c.items.result.now =
      subst (λ (l : List ItemRow). All (IsWhole bytes) l) (sym c.items.ensures.rows) (rows_whole bytes v.contents.kept whole v.rows c.items.ensures.files) in
      let facts : facts_of_rows c.deref.result.now ≡ map (facts_of file_size) (page file_size (all_in repo) (holding_of bytes v).repository) =
      ap facts_of_rows c.deref.ensures.value ∙ c.in_ok-rows.ensures bytes rows
      ∙ ap (λ (l : List ItemRow). map (facts_of file_size) (page file_size (all_in repo) (record { items = items_in bytes l }))) c.items.ensures.rows in
      let fault : IsErrOf c.thin_reply.result ReplyTooLarge =
      subst (λ e. IsErrOf c.thin_reply.result e) c.in-Err-ReplyTooLarge.field-0-is (subst (λ r. IsErrOf r c.in-Err-ReplyTooLarge.field-0) (sym c.in-Err-ReplyTooLarge.is) refl) in
      let text : List ℕ = query_text file_size (all_in repo) (holding_of bytes v).repository in
      let long : most_reply < length text = subst (λ (l : List Facts). most_reply < length (reply_text 0 None l)) facts (c.thin_reply.ensures.too_large fault) in
      too_large text (le_false (length text) most_reply long);
  may = tt;
}

-- The whole text of a reply.
use Rattle.std.proofs.Common.{◌≡◌, ℕ, ◌+◌, ◌<◌, List, ◌++◌, length, map, sym, ap, ◌∙◌, arith, Bor, append_assoc, length-append}
use Rattle.std.proofs.lemmas.List.{length-map}
use Rattle.std.specs.Prelude.{None, codes, Result, Ok, Err}
use Rattle.std.specs.Result.{IsErrOf}
use Rattle.arti_aql_reply.specs.declared.fault.ReplyFault.{ReplyFault}
use Rattle.arti_rows.specs.declared.rows.ItemRow.{ItemRow}
use Rattle.arti_model.specs.Query.{Facts, with_commas, row_text, range_text, reply_text}
use Rattle.arti_aql_reply.specs.Rows.{facts_of_row, facts_of_rows}

abbrev facts_of : Bor ItemRow → Facts
facts_of r = facts_of_row r.now

-- the text behind the rows
abbrev behind : ℕ → List ℕ
behind n = codes "],\"range\":" ++ (range_text 0 None n ++ codes "}")

joined : (a b c d e : List ℕ) → a ++ (b ++ (c ++ (d ++ e))) ≡ a ++ b ++ c ++ d ++ e
joined a b c d e = simp (append_assoc)

-- the reply by its three parts
by_parts : (rows : List Facts) → codes "{\"results\":[" ++ (with_commas (map row_text rows) ++ behind (length rows)) ≡ reply_text 0 None rows
unfolding reply_text
by_parts rows = joined (codes "{\"results\":[") (with_commas (map row_text rows)) (codes "],\"range\":") (range_text 0 None (length rows)) (codes "}")

pub whole_reply : (rows : List (Bor ItemRow)) (begun more out : List ℕ) → begun ≡ codes "{\"results\":[" → more ≡ begun ++ with_commas (map row_text (facts_of_rows rows))
    → out ≡ more ++ behind (length rows) → out ≡ reply_text 0 None (facts_of_rows rows)
whole_reply rows begun more out e1 e2 e3 =
    let count : length rows ≡ length (facts_of_rows rows) = sym (length-map rows facts_of) in
    e3 ∙ ap (λ (l : List ℕ). l ++ behind (length rows)) (e2 ∙ ap (λ (l : List ℕ). l ++ with_commas (map row_text (facts_of_rows rows))) e1)
    ∙ append_assoc (codes "{\"results\":[") (with_commas (map row_text (facts_of_rows rows))) (behind (length rows))
    ∙ ap (λ (n : ℕ). codes "{\"results\":[" ++ (with_commas (map row_text (facts_of_rows rows)) ++ behind n)) count
    ∙ by_parts (facts_of_rows rows)

pub front_long : (rows : List Facts) (most : ℕ) → most < length (codes "{\"results\":[" ++ with_commas (map row_text rows)) → most < length (reply_text 0 None rows)
front_long rows most long =
    let whole : length (codes "{\"results\":[" ++ with_commas (map row_text rows)) + length (behind (length rows)) ≡ length (reply_text 0 None rows) =
    sym (length-append (codes "{\"results\":[" ++ with_commas (map row_text rows)) (behind (length rows)))
    ∙ ap length (append_assoc (codes "{\"results\":[") (with_commas (map row_text rows)) (behind (length rows)) ∙ by_parts rows) in
    omega (arith, whole, long)

-- the fault of a result, as one of another type
abbrev fault_of : {S T E : Type 0} → E → Result S E → Result T E
fault_of other (Ok x) = Err other
fault_of other (Err e) = Err e

-- a fault is the same whatever was wanted
pub same_fault : {S T : Type 0} (e f : ReplyFault) → IsErrOf {T = S} (Err e) f → IsErrOf {T = T} (Err e) f
same_fault e f is = ap (fault_of f) is

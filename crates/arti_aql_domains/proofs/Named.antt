-- Fields by their names, among all and among those that are shown.
use Rattle.std.proofs.Common.{◌≡◌, ℕ, Bool, true, false, ◌&&◌, List, [], ◌∷◌, cond, Option, Some, None, refl, sym, ap, ◌∙◌}
use Rattle.std.specs.Prelude.{filter, Result, Ok, Err}
use Rattle.std.specs.Str.{bytes_eq}
use Rattle.std.proofs.lemmas.Bool.{false≢true}
use Rattle.std.proofs.lemmas.Slice.Eq.{bytes_eq-Decides}
use Rattle.arti_query_model.specs.declared.fields.Rel.{Rel}
use Rattle.arti_query_model.specs.declared.fields.FieldId.{FieldId}
use Rattle.arti_query_model.specs.declared.fault.TypeFault.{TypeFault}
use Rattle.arti_query_model.specs.declared.fault.TypeFault.TheVariants.{SortNotShown}
use Rattle.arti_query_model.specs.Outcome.{◌>>=◌, or_fault, each}
use Rattle.arti_query_model.specs.Table.{Entry, fields, field_of, named_entry}
use Rattle.arti_query_model.specs.Typed.{is_shown, is_ordered, sort_field}
use Rattle.arti_aql_domains.specs.Sortable.{shown_entries, sorted_among}

-- the first entry is kept or not, and has the name or not
one : (hit keep want : Bool) (e : Entry) (rest kept : Option Entry) → (hit ≡ true → keep ≡ want) → kept ≡ cond want rest None
    → cond keep (cond hit (Some e) kept) kept ≡ cond want (cond hit (Some e) rest) None
one true true true e rest kept h is = refl
one true true false e rest kept h is = absurd (false≢true (sym (h refl)))
one true false true e rest kept h is = absurd (false≢true (h refl))
one true false false e rest kept h is = is
one false true want e rest kept h is = is
one false false want e rest kept h is = is

through : (name : List ℕ) (keep : Bool) (e : Entry) (es : List Entry)
    → named_entry name (cond keep (e ∷ es) es) ≡ cond keep (cond (bytes_eq name e.name) (Some e) (named_entry name es)) (named_entry name es)
through name true e es = refl
through name false e es = refl

abbrev no_one : Option Entry
no_one = None

nobody : (b : Bool) → no_one ≡ cond b no_one no_one
nobody true = refl
nobody false = refl

named_filter : (shown : List ℕ → Bool) (name : List ℕ) (es : List Entry) → named_entry name (filter (λ e. shown e.name) es) ≡ cond (shown name) (named_entry name es) None
named_filter shown name [] = nobody (shown name)
named_filter shown name (e ∷ es) =
    through name (shown e.name) e (filter (λ x. shown x.name) es)
    ∙ one (bytes_eq name e.name) (shown e.name) (shown name) e (named_entry name es) (named_entry name (filter (λ x. shown x.name) es))
    (λ hit. ap shown (sym ((bytes_eq-Decides name e.name).0 hit))) (named_filter shown name es)

-- a field that is shown and has an order
abbrev chosen : List ℕ → Bool → Bool → Option Entry → Result (FieldId × Bool) TypeFault
chosen name descending shown o = or_fault (SortNotShown name) o >>= λ entry. cond (shown && is_ordered entry.type) (Ok (entry.field, descending)) (Err (SortNotShown name))

abbrev ordered : List ℕ → Bool → Option Entry → Result (FieldId × Bool) TypeFault
ordered name descending o = or_fault (SortNotShown name) o >>= λ entry. cond (is_ordered entry.type) (Ok (entry.field, descending)) (Err (SortNotShown name))

ordered_chosen : (name : List ℕ) (descending shown : Bool) (o : Option Entry) → ordered name descending (cond shown o None) ≡ chosen name descending shown o
ordered_chosen name descending true o = refl
ordered_chosen name descending false None = refl
ordered_chosen name descending false (Some e) = refl

sorted_same : (root : Rel) (includes : List (List ℕ)) (descending : Bool) (name : List ℕ)
    → sorted_among (shown_entries root includes) descending name ≡ sort_field root includes descending name
unfolding sort_field field_of
sorted_same root includes descending name =
    ap (ordered name descending) (named_filter (is_shown root includes) name (fields root)) ∙ ordered_chosen name descending (is_shown root includes name) (named_entry name (fields root))

each_same : {A B E : Type 0} (f g : A → Result B E) → ((x : A) → f x ≡ g x) → (xs : List A) → each f xs ≡ each g xs
each_same f g h [] = refl
each_same f g h (x ∷ xs) =
    ap (λ r. r >>= λ y. each f xs >>= λ ys. Ok (y ∷ ys)) (h x) ∙ ap (λ r. g x >>= λ y. r >>= λ ys. Ok (y ∷ ys)) (each_same f g h xs)

-- what is sorted by, told by the fields that are shown
pub order_same : (root : Rel) (includes : List (List ℕ)) (descending : Bool) (names : List (List ℕ)) (shown : List Entry) → shown ≡ shown_entries root includes
    → each (sort_field root includes descending) names ≡ each (sorted_among shown descending) names
order_same root includes descending names shown is =
    sym (ap (λ es. each (sorted_among es descending) names) is ∙ each_same (sorted_among (shown_entries root includes) descending) (sort_field root includes descending) (sorted_same root includes descending) names)

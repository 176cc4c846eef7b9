-- A printed row, one more part at a time.
use Rattle.std.proofs.Common.{◌≡◌, ℕ, ◌+◌, ◌<◌, ◌≤◌, List, [], ◌∷◌, ◌++◌, length, get_or, take, map, refl, sym, ap, ◌∙◌, arith, append_assoc}
use Rattle.std.proofs.lemmas.List.{take_more, take_all, map_push, length-take, length-map}
use Rattle.std.proofs.lemmas.Bool.Decides.{nat_tests}
use Rattle.arti_aql_parse.specs.Print.{row, comma_before, member_text, member_texts, object_texts, object_text}
use Rattle.arti_aql_parse.specs.View.{member_view, object_view, members_view, objects_view}
use Rattle.arti_aql_parse.specs.declared.query.Member.{Member}
use Rattle.arti_aql_parse.specs.declared.query.Object.{Object}

comma_some : (i : ℕ) → 0 < i → comma_before i ≡ 44 ∷ []
comma_some i some = grind (arith, nat_tests)

comma_none : (i : ℕ) → i ≡ 0 → comma_before i ≡ []
comma_none i none = grind (arith, nat_tests)

push_later : (x : List ℕ) (xs : List (List ℕ)) (y : List ℕ) → row ((x ∷ xs) ++ y ∷ []) ≡ row (x ∷ xs) ++ 44 ∷ y
push_later x [] y = refl
push_later x (z ∷ zs) y = ap (λ l. x ++ 44 ∷ l) (push_later z zs y) ∙ sym (append_assoc x (44 ∷ row (z ∷ zs)) (44 ∷ y))

row_push : (xs : List (List ℕ)) (y : List ℕ) (i : ℕ) → i ≡ length xs → row (xs ++ y ∷ []) ≡ row xs ++ (comma_before i ++ y)
row_push [] y i is = ap (λ c. c ++ y) (sym (comma_none i is))
row_push (x ∷ xs) y i is = push_later x xs y ∙ ap (λ c. row (x ∷ xs) ++ (c ++ y)) (sym (comma_some i (omega arith)))

-- what a turn of a loop over a row leaves
pub row_step : {A : Type 0} (f : A → List ℕ) (items : List A) (i : ℕ) (x : A) (start before after done : List ℕ) → i < length items → x ≡ get_or items i x
    → before ≡ start ++ row (map f (take i items)) → after ≡ before ++ comma_before i → done ≡ after ++ f x → done ≡ start ++ row (map f (take (i + 1) items))
row_step f items i x start before after done lt is front comma part =
    let front_row = map f (take i items) in
    let long : i ≡ length front_row = omega (arith, length-map (take i items) f, length-take i items) in
    let more : map f (take (i + 1) items) ≡ front_row ++ f x ∷ [] = ap (map f) (take_more items i x lt ∙ ap (λ v. take i items ++ v ∷ []) (sym is)) ∙ map_push f (take i items) x in
    part ∙ ap (λ l. l ++ f x) (comma ∙ ap (λ l. l ++ comma_before i) front ∙ append_assoc start (row front_row) (comma_before i))
    ∙ append_assoc start (row front_row ++ comma_before i) (f x)
    ∙ ap (λ l. start ++ l) (append_assoc (row front_row) (comma_before i) (f x) ∙ sym (row_push front_row (f x) i long) ∙ ap row (sym more))

-- what the loop leaves at its end
pub row_done : {A : Type 0} (f : A → List ℕ) (items : List A) (i : ℕ) (start bytes : List ℕ) → length items ≤ i → bytes ≡ start ++ row (map f (take i items)) → bytes ≡ start ++ row (map f items)
row_done f items i start bytes all is = is ∙ ap (λ l. start ++ row (map f l)) (take_all i items all)

pub member_rows : (ms : List Member) (n : ℕ) → member_texts (members_view ms) n ≡ map (λ m. member_text (member_view m) n) ms
member_rows [] n = refl
member_rows (m ∷ ms) n = ap (λ l. member_text (member_view m) n ∷ l) (member_rows ms n)

pub object_rows : (os : List Object) (n : ℕ) → object_texts (objects_view os) n ≡ map (λ o. object_text (object_view o) n) os
object_rows [] n = refl
object_rows (o ∷ os) n = ap (λ l. object_text (object_view o) n ∷ l) (object_rows os n)

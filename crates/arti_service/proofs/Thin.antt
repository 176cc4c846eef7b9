-- The one form of query: its key, and how far a body goes along with it.
use Rattle.std.proofs.Common.{◌≡◌, ℕ, ◌+◌, ◌-◌, ◌<◌, ◌≤◌, zero, suc, Bool, true, false, cond, List, [], ◌∷◌, ◌++◌, length, get_or, take, drop, refl, sym, ap, ◌∙◌, subst, ⊎_elim, arith, nat_eq, nat_lt, append_assoc, length-append, length-drop}
use Rattle.std.specs.Prelude.{Some, None, ◌&&◌, ◌||◌, ◌==◌, nat_le, codes}
use Rattle.std.specs.List.{list_all, starts_with, take_while, AllPass}
use Rattle.std.specs.Bool.{Decides}
use Rattle.std.specs.Cmp.Lexicographic.{pointwise}
use Rattle.std.specs.Int.{is_in_range}
use Rattle.std.proofs.lemmas.Bool.{false≢true, cases_lt}
use Rattle.std.proofs.lemmas.Bool.Decides.{Decides-eqb, nat_tests}
use Rattle.std.proofs.lemmas.Slice.Eq.{slice_eq-Decides, starts_is}
use Rattle.std.proofs.lemmas.List.{take-append-drop, take_all, drop_all, take-append-le, drop-append-le, get_or_default}
use Rattle.std.proofs.lemmas.List.Sums.{take_while-cons, AllPass-from_list_all, list_all-from_AllPass}
use Rattle.std.proofs.lemmas.List.Elements.{All-take, All-head, All-tail}
use Rattle.arti_rows.specs.Names.{is_repo_byte}
use Rattle.arti_aql_parse.specs.Thin.{is_key_byte, IsThinKey, AsksFor, BeginsForm, LeavesForm}
use Rattle.arti_model.specs.Query.{before_key, behind_key, is_thin_key, thin_body, thin_middle, thin_key, key_to_be, is_thin_front, longest_front, thin_end}

-- ---- keys

same_by : (u l d x y z : Bool) → ((u || l) || (d || (x || (y || z)))) ≡ (((((d || u) || l) || x) || y) || z)
same_by true l true x y z = refl
same_by true l false x y z = refl
same_by false true true x y z = refl
same_by false true false x y z = refl
same_by false false true x y z = refl
same_by false false false true y z = refl
same_by false false false false true z = refl
same_by false false false false false z = refl

byte_same : (b : ℕ) → is_key_byte b ≡ is_repo_byte b
byte_same b = same_by (is_in_range 65 90 b) (is_in_range 97 122 b) (is_in_range 48 57 b) (b == 45) (b == 95) (b == 46)

pub both : (a b : Bool) → a ≡ true → b ≡ true → (a && b) ≡ true
both a b p q = ap (λ x. x && b) p ∙ q

pub left_of : (a b : Bool) → (a && b) ≡ true → a ≡ true
left_of true b e = refl
left_of false b e = absurd (false≢true e)

pub right_of : (a b : Bool) → (a && b) ≡ true → b ≡ true
right_of true b e = e
right_of false b e = absurd (false≢true e)

key_good : (key : List ℕ) → IsThinKey key → is_thin_key key ≡ true
key_good key k =
    both (nat_lt 0 (length key) && nat_le (length key) 64) (list_all is_repo_byte key)
    (both (nat_lt 0 (length key)) (nat_le (length key) 64) (grind (arith, nat_tests, k.some)) (grind (arith, nat_tests, k.few)))
    (list_all-from_AllPass is_repo_byte key (λ i d lt. sym (byte_same (get_or key i d)) ∙ ap is_key_byte (get_or_default key i d 0 lt) ∙ k.each i lt))

good_key : (key : List ℕ) → is_thin_key key ≡ true → IsThinKey key
good_key key e =
    let sizes = left_of (nat_lt 0 (length key) && nat_le (length key) 64) (list_all is_repo_byte key) e in
    let some = left_of (nat_lt 0 (length key)) (nat_le (length key) 64) sizes in
    let few = right_of (nat_lt 0 (length key)) (nat_le (length key) 64) sizes in
    let each = AllPass-from_list_all is_repo_byte key (right_of (nat_lt 0 (length key) && nat_le (length key) 64) (list_all is_repo_byte key) e) in
    record { some = grind (arith, nat_tests, some); few = grind (arith, nat_tests, few); each = λ i lt. byte_same (get_or key i 0) ∙ each i 0 lt }

all_pass : (key : List ℕ) → IsThinKey key → AllPass is_repo_byte key
all_pass key k = AllPass-from_list_all is_repo_byte key (right_of (nat_lt 0 (length key) && nat_le (length key) 64) (list_all is_repo_byte key) (key_good key k))

-- ---- the key of a body of the form

pub same_texts : (xs ys : List ℕ) → Decides (pointwise nat_eq xs ys) (xs ≡ ys)
same_texts xs ys = slice_eq-Decides Decides-eqb xs ys (pointwise nat_eq xs ys) refl

begins : (xs front : List ℕ) → (starts_with nat_eq xs front ≡ true → xs ≡ front ++ drop (length front) xs) × ((rest : List ℕ) → xs ≡ front ++ rest → starts_with nat_eq xs front ≡ true)
begins xs front = starts_is Decides-eqb xs front (starts_with nat_eq xs front) refl

body_long : (key : List ℕ) → length (thin_body key) ≡ length key + 23
body_long key = omega (arith, length-append (before_key ++ key) behind_key, length-append before_key key)

middle : (key : List ℕ) → thin_middle (thin_body key) ≡ key
middle key =
    let size : length (thin_body key) - 23 ≡ length key = omega (arith, body_long key) in
    ap (λ n. take n (drop 20 (thin_body key))) size ∙ take-append-le (length key) key behind_key (omega arith) ∙ take_all (length key) key (omega arith)

cond_true : (b : Bool) (key : List ℕ) → b ≡ true → cond b (Some key) None ≡ Some key
cond_true b key e = ap (λ x. cond x (Some key) None) e

pub key_read : (body key : List ℕ) → AsksFor body key → thin_key body ≡ Some key
key_read body key asks =
    let whole : body ≡ thin_body key = asks.whole in
    let read : thin_key (thin_body key) ≡ Some key =
    ap (λ (k : List ℕ). cond (is_thin_key k && pointwise nat_eq (thin_body key) (thin_body k)) (Some k) None) (middle key)
    ∙ cond_true (is_thin_key key && pointwise nat_eq (thin_body key) (thin_body key)) key (both (is_thin_key key) (pointwise nat_eq (thin_body key) (thin_body key)) (key_good key asks.name) ((same_texts (thin_body key) (thin_body key)).1 refl)) in
    ap thin_key whole ∙ read

none_by : (body : List ℕ) (b : Bool) → (is_thin_key (thin_middle body) && pointwise nat_eq body (thin_body (thin_middle body))) ≡ b → ((key : List ℕ) → AsksFor body key → ⊥) → cond b (Some (thin_middle body)) None ≡ None
none_by body true e none =
    let key = thin_middle body in
    absurd (none key (record { name = good_key key (left_of (is_thin_key key) (pointwise nat_eq body (thin_body key)) e); whole = (same_texts body (thin_body key)).0 (right_of (is_thin_key key) (pointwise nat_eq body (thin_body key)) e) }))
none_by body false e none = refl

pub no_key : (body : List ℕ) → ((key : List ℕ) → AsksFor body key → ⊥) → thin_key body ≡ None
no_key body none = none_by body (is_thin_key (thin_middle body) && pointwise nat_eq body (thin_body (thin_middle body))) refl none

-- ---- fronts

-- a front of the form, whose key goes as far as it does
front_by : (front key : List ℕ) → key_to_be front ≡ key → is_thin_key key ≡ true → (more : List ℕ) → thin_body key ≡ front ++ more → is_thin_front front ≡ true
front_by front key is good more whole =
    let test : (is_thin_key key && starts_with nat_eq (thin_body key) front) ≡ true = both (is_thin_key key) (starts_with nat_eq (thin_body key) front) good ((begins (thin_body key) front).1 more whole) in
    ap (λ (k : List ℕ). is_thin_key k && starts_with nat_eq (thin_body k) front) is ∙ test

not_zero : (n : ℕ) → (suc n == 0) ≡ false
not_zero n = grind (arith, nat_tests)

to_be_some : (chars : List ℕ) → 0 < length chars → cond (length chars == 0) (codes "a") chars ≡ chars
to_be_some [] some = absurd (omega arith)
to_be_some (c ∷ chars) some = ap (λ b. cond b (codes "a") (c ∷ chars)) (not_zero (length chars))

take_passing : (xs : List ℕ) → AllPass is_repo_byte xs → take_while is_repo_byte xs ≡ xs
take_passing [] all = refl
take_passing (x ∷ xs) all =
    take_while-cons is_repo_byte x xs ∙ ap (λ b. cond b (x ∷ take_while is_repo_byte xs) []) (All-head (λ b. is_repo_byte b ≡ true) x xs all)
    ∙ ap (λ l. x ∷ l) (take_passing xs (All-tail (λ b. is_repo_byte b ≡ true) x xs all))

take_to_quote : (xs rest : List ℕ) → AllPass is_repo_byte xs → take_while is_repo_byte (xs ++ 34 ∷ rest) ≡ xs
take_to_quote [] rest all = take_while-cons is_repo_byte 34 rest
take_to_quote (x ∷ xs) rest all =
    take_while-cons is_repo_byte x (xs ++ 34 ∷ rest) ∙ ap (λ b. cond b (x ∷ take_while is_repo_byte (xs ++ 34 ∷ rest)) []) (All-head (λ b. is_repo_byte b ≡ true) x xs all)
    ∙ ap (λ l. x ∷ l) (take_to_quote xs rest (All-tail (λ b. is_repo_byte b ≡ true) x xs all))

module _ (front more key : List ℕ) (name : IsThinKey key) (whole : front ++ more ≡ thin_body key) where
  -- it ends before the key
  before : length front ≤ 20 → is_thin_front front ≡ true
  before short =
      let none : drop 20 front ≡ [] = drop_all 20 front short in
      let is : key_to_be front ≡ codes "a" = ap (λ (l : List ℕ). cond (length (take_while is_repo_byte l) == 0) (codes "a") (take_while is_repo_byte l)) none in
      let lead : front ≡ take (length front) before_key =
      sym (take-append-le (length front) front more (omega arith) ∙ take_all (length front) front (omega arith)) ∙ ap (take (length front)) (whole ∙ append_assoc before_key key behind_key)
      ∙ take-append-le (length front) before_key (key ++ behind_key) short in
      let split : before_key ≡ front ++ drop (length front) before_key = sym (take-append-drop (length front) before_key) ∙ ap (λ (l : List ℕ). l ++ drop (length front) before_key) (sym lead) in
      front_by front (codes "a") is refl (drop (length front) before_key ++ (codes "a" ++ behind_key))
      (append_assoc before_key (codes "a") behind_key ∙ ap (λ (l : List ℕ). l ++ (codes "a" ++ behind_key)) split ∙ append_assoc front (drop (length front) before_key) (codes "a" ++ behind_key))

  module _ (long : 20 < length front) where
    abbrev rest : List ℕ
    rest = drop 20 front

    rest_long : length rest + 20 ≡ length front
    rest_long = omega (arith, length-drop 20 front, long)

    lead : take 20 front ≡ before_key
    lead = sym (take-append-le 20 front more (omega (arith, long))) ∙ ap (take 20) whole

    front_is : front ≡ before_key ++ rest
    front_is = sym (take-append-drop 20 front) ∙ ap (λ (l : List ℕ). l ++ rest) lead

    behind : rest ++ more ≡ key ++ behind_key
    behind = sym (drop-append-le 20 front more (omega (arith, long))) ∙ ap (drop 20) whole

    -- it ends in the key, or where the key does
    within : length rest ≤ length key → is_thin_front front ≡ true
    within short =
        let part : rest ≡ take (length rest) key =
        sym (take-append-le (length rest) rest more (omega arith) ∙ take_all (length rest) rest (omega arith)) ∙ ap (take (length rest)) behind ∙ take-append-le (length rest) key behind_key short in
        let all : AllPass is_repo_byte rest = subst (AllPass is_repo_byte) (sym part) (All-take (λ b. is_repo_byte b ≡ true) (length rest) key (all_pass key name)) in
        let is : key_to_be front ≡ rest = ap (λ (l : List ℕ). cond (length l == 0) (codes "a") l) (take_passing rest all) ∙ to_be_some rest (omega (arith, rest_long, long)) in
        let good : is_thin_key rest ≡ true =
        both (nat_lt 0 (length rest) && nat_le (length rest) 64) (list_all is_repo_byte rest)
        (both (nat_lt 0 (length rest)) (nat_le (length rest) 64) (let some : 0 < length rest = omega (arith, rest_long, long) in grind (arith, nat_tests, some)) (let few : length rest ≤ 64 = omega (arith, short, name.few) in grind (arith, nat_tests, few)))
        (list_all-from_AllPass is_repo_byte rest all) in
        front_by front rest is good behind_key (ap (λ (l : List ℕ). l ++ behind_key) (sym front_is))

    -- it goes on behind the key
    over_by : (tail : List ℕ) → 0 < length tail → rest ≡ key ++ tail → tail ++ more ≡ behind_key → is_thin_front front ≡ true
    over_by [] some e f = absurd (omega arith)
    over_by (q ∷ tail) some e f =
        let quote : q ≡ 34 = ap (λ (l : List ℕ). get_or l 0 0) f in
        let chars : take_while is_repo_byte rest ≡ key =
        ap (take_while is_repo_byte) (e ∙ ap (λ (x : ℕ). key ++ x ∷ tail) quote) ∙ take_to_quote key tail (all_pass key name) in
        let is : key_to_be front ≡ key = ap (λ (l : List ℕ). cond (length l == 0) (codes "a") l) chars ∙ to_be_some key name.some in
        front_by front key is (key_good key name) more (sym whole)

    over : length key < length rest → is_thin_front front ≡ true
    over far =
        let tail = drop (length key) rest in
        let part : take (length key) rest ≡ key =
        sym (take-append-le (length key) rest more (omega (arith, far))) ∙ ap (take (length key)) behind ∙ take-append-le (length key) key behind_key (omega arith) ∙ take_all (length key) key (omega arith) in
        let e : rest ≡ key ++ tail = sym (take-append-drop (length key) rest) ∙ ap (λ (l : List ℕ). l ++ tail) part in
        let f : tail ++ more ≡ behind_key =
        sym (drop-append-le (length key) rest more (omega (arith, far))) ∙ ap (drop (length key)) behind ∙ drop-append-le (length key) key behind_key (omega arith)
        ∙ ap (λ (l : List ℕ). l ++ behind_key) (drop_all (length key) key (omega arith)) in
        over_by tail (omega (arith, length-drop (length key) rest, far)) e f

  is_front : is_thin_front front ≡ true
  is_front = ⊎_elim (λ (long : 20 < length front). ⊎_elim (over long) (within long) (cases_lt (length key) (length (drop 20 front)))) before (cases_lt 20 (length front))

-- what begins a body of the form is a front, and a front does so
front_of : (front : List ℕ) → BeginsForm front → is_thin_front front ≡ true
front_of front b = is_front front b.1 b.0 b.2.name b.2.whole

begins_of : (front : List ℕ) → is_thin_front front ≡ true → BeginsForm front
begins_of front e =
    let key = key_to_be front in
    let split = (begins (thin_body key) front).0 (right_of (is_thin_key key) (starts_with nat_eq (thin_body key) front) e) in
    (key, drop (length front) (thin_body key), record { name = good_key key (left_of (is_thin_key key) (starts_with nat_eq (thin_body key) front) e); whole = sym split })

-- ---- how far a body goes along with the form

longest_by : (body : List ℕ) (at n : ℕ) (b : Bool) → is_thin_front (take (suc n) body) ≡ b → LeavesForm body at → at ≤ suc n → suc n ≤ length body → (at ≤ n → longest_front n body ≡ at) → cond b (suc n) (longest_front n body) ≡ at
longest_by body at n true e leaves low high more =
    ⊎_elim (λ (far : at < suc n). absurd (leaves.longest (suc n) far high (begins_of (take (suc n) body) e))) (λ (reached : suc n ≤ at). omega (arith, reached, low)) (cases_lt at (suc n))
longest_by body at n false e leaves low high more =
    ⊎_elim (λ (far : at < suc n). more (omega (arith, far)))
    (λ (reached : suc n ≤ at). let same : at ≡ suc n = omega (arith, reached, low) in
    absurd (false≢true (sym e ∙ ap (λ (k : ℕ). is_thin_front (take k body)) (sym same) ∙ front_of (take at body) leaves.begins)))
    (cases_lt at (suc n))

longest_is : (body : List ℕ) (at n : ℕ) → LeavesForm body at → at ≤ n → n ≤ length body → longest_front n body ≡ at
longest_is body at zero leaves low high = omega (arith, low)
longest_is body at (suc n) leaves low high = longest_by body at n (is_thin_front (take (suc n) body)) refl leaves low high (λ le. longest_is body at n leaves le (omega (arith, high)))

pub end_is : (body : List ℕ) (at : ℕ) → LeavesForm body at → thin_end body ≡ at
end_is body at leaves = longest_is body at (length body) leaves leaves.within (omega arith)

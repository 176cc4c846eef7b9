-- The first empty line of a head is its end.
use Rattle.std.proofs.Common.{◌≡◌, ◌≢◌, ℕ, ◌+◌, ◌<◌, ◌≤◌, Bool, true, false, List, [], ◌∷◌, ◌++◌, length, refl, sym, ap, ◌∙◌, subst, arith, append_assoc, length-append, Option, Some, None, ◌&&◌}
use Rattle.std.specs.Prelude.{All, codes, ◌==◌, if◌then◌else◌}
use Rattle.std.proofs.lemmas.List.Elements.{All-head, All-tail, All-cons, All-nil}
use Rattle.std.proofs.lemmas.Bool.{false≢true, ne_eqb}
use Rattle.std.specs.List.{flat_map}
use Rattle.httparse.specs.Grammar.{is_token_byte, is_uri_byte, is_value_byte, AllPass, LineEnd, crlf, lf, print_end, print_blank, print_version, Field, print_field, IsField, print_section, RequestHead, print_request, ReadsRequest}
use Rattle.httparse.proofs.GrammarLemmas.{print_request-append, cons-append}

-- LF is the first byte
abbrev pub starts_lf : List ℕ → Bool
starts_lf [] = false
starts_lf (b ∷ bytes) = b == 10

-- where the first empty line ends: n bytes went before, the last of them an LF where after is true
abbrev pub empty_line_end : ℕ → Bool → List ℕ → Option ℕ
empty_line_end n after [] = None
empty_line_end n after (b ∷ bytes) =
    if after && b == 10 then Some (n + 1)
    else (if after && (b == 13 && starts_lf bytes) then Some (n + 2)
    else empty_line_end (n + 1) (b == 10) bytes)

-- no line ends stand before the first line
abbrev pub HasNoBlank : RequestHead → Type 0
HasNoBlank h = h.blank ≡ []

abbrev Plain : ℕ → Type 0
Plain b = (b ≢ 13) × (b ≢ 10)

step : (n : ℕ) (after : Bool) (b : ℕ) (bytes : List ℕ) → Plain b → empty_line_end n after (b ∷ bytes) ≡ empty_line_end (n + 1) false bytes
step n false b bytes p = ap (λ t. empty_line_end (n + 1) t bytes) (ne_eqb b 10 p.1)
step n true b bytes p = rw (ne_eqb b 10 p.1, ne_eqb b 13 p.0) refl

words : (w r : List ℕ) (n : ℕ) → All Plain w → empty_line_end n false (w ++ r) ≡ empty_line_end (n + length w) false r
words [] r n all = let e : n ≡ n + 0 = omega arith in ap (λ k. empty_line_end k false r) e
words (b ∷ w) r n all =
    let e : (n + 1) + length w ≡ n + length (b ∷ w) = omega arith in
    step n false b (w ++ r) (All-head Plain b w all) ∙ words w r (n + 1) (All-tail Plain b w all) ∙ ap (λ k. empty_line_end k false r) e

word_from : (w r : List ℕ) (n : ℕ) (after : Bool) → 0 < length w → All Plain w → empty_line_end n after (w ++ r) ≡ empty_line_end (n + length w) false r
word_from [] r n after some all = absurd (omega arith)
word_from (b ∷ w) r n after some all =
    let e : (n + 1) + length w ≡ n + length (b ∷ w) = omega arith in
    step n after b (w ++ r) (All-head Plain b w all) ∙ words w r (n + 1) (All-tail Plain b w all) ∙ ap (λ k. empty_line_end k false r) e

ends : (e : LineEnd) (r : List ℕ) (n : ℕ) → empty_line_end n false (print_end e ++ r) ≡ empty_line_end (n + length (print_end e)) true r
ends crlf r n = let e : (n + 1) + 1 ≡ n + 2 = omega arith in ap (λ k. empty_line_end k true r) e
ends lf r n = refl

last_end : (e : LineEnd) (r : List ℕ) (n : ℕ) → empty_line_end n true (print_end e ++ r) ≡ Some (n + length (print_end e))
last_end crlf r n = refl
last_end lf r n = refl

plain_all : (test : ℕ → Bool) → ((b : ℕ) → test b ≡ true → Plain b) → (w : List ℕ) → AllPass test w → All Plain w
plain_all test h [] all = All-nil Plain
plain_all test h (b ∷ w) all = All-cons Plain b w (h b (All-head (λ v. test v ≡ true) b w all)) (plain_all test h w (All-tail (λ v. test v ≡ true) b w all))

token_plain : (b : ℕ) → is_token_byte b ≡ true → Plain b
unfolding is_token_byte
token_plain b t = (λ e. false≢true (subst (λ (v : ℕ). is_token_byte v ≡ true) e t), λ e. false≢true (subst (λ (v : ℕ). is_token_byte v ≡ true) e t))

uri_plain : (b : ℕ) → is_uri_byte b ≡ true → Plain b
uri_plain b t = (λ e. false≢true (subst (λ (v : ℕ). is_uri_byte v ≡ true) e t), λ e. false≢true (subst (λ (v : ℕ). is_uri_byte v ≡ true) e t))

value_plain : (b : ℕ) → is_value_byte b ≡ true → Plain b
value_plain b t = (λ e. false≢true (subst (λ (v : ℕ). is_value_byte v ≡ true) e t), λ e. false≢true (subst (λ (v : ℕ). is_value_byte v ≡ true) e t))

field_first : (name raw : List ℕ) (e : List ℕ) (fs last r : List ℕ) → ((name ++ 58 ∷ raw ++ e) ++ fs) ++ last ++ r ≡ name ++ (58 ∷ (raw ++ (e ++ ((fs ++ last) ++ r))))
field_first name raw e fs last r = simp (append_assoc, cons-append)

count_field : (name raw e fs last : List ℕ) → length (((name ++ 58 ∷ raw ++ e) ++ fs) ++ last) ≡ length name + 1 + length raw + length e + length (fs ++ last)
count_field name raw e fs last = grind (arith, length-append)

section : (fs : List Field) (e : LineEnd) (r : List ℕ) (n : ℕ) → All IsField fs → empty_line_end n true (print_section fs e ++ r) ≡ Some (n + length (print_section fs e))
section [] e r n all = last_end e r n
section (f ∷ fs) e r n all =
    let field = All-head IsField f fs all in
    let rest = print_section fs e ++ r in
    let n1 = n + length f.name in
    let n2 = n1 + 1 + length f.raw in
    let n3 = n2 + length (print_end f.end) in
    let count : n3 + length (print_section fs e) ≡ n + length (print_section (f ∷ fs) e) = omega (arith, count_field f.name f.raw (print_end f.end) (flat_map print_field fs) (print_end e)) in
    ap (empty_line_end n true) (field_first f.name f.raw (print_end f.end) (flat_map print_field fs) (print_end e) r)
    ∙ word_from f.name (58 ∷ (f.raw ++ (print_end f.end ++ rest))) n true field.name.0 (plain_all is_token_byte token_plain f.name field.name.1)
    ∙ step n1 false 58 (f.raw ++ (print_end f.end ++ rest)) ((λ h. omega arith), (λ h. omega arith))
    ∙ words f.raw (print_end f.end ++ rest) (n1 + 1) (plain_all is_value_byte value_plain f.raw field.raw)
    ∙ ends f.end rest n2
    ∙ section fs e r n3 (All-tail IsField f fs all)
    ∙ ap Some count

cons_plain : (b : ℕ) (w : List ℕ) → b ≢ 13 → b ≢ 10 → All Plain w → All Plain (b ∷ w)
cons_plain b w r l all = All-cons Plain b w (r, l) all

version_plain : (minor : ℕ) → minor ≤ 1 → All Plain (print_version minor)
version_plain minor low =
    let w : List ℕ = (48 + minor) ∷ [] in
    let v = cons_plain (48 + minor) [] (λ h. omega arith) (λ h. omega arith) (All-nil Plain) in
    let v1 = cons_plain 46 w (λ h. omega arith) (λ h. omega arith) v in
    let v2 = cons_plain 49 (46 ∷ w) (λ h. omega arith) (λ h. omega arith) v1 in
    let v3 = cons_plain 47 (49 ∷ 46 ∷ w) (λ h. omega arith) (λ h. omega arith) v2 in
    let v4 = cons_plain 80 (47 ∷ 49 ∷ 46 ∷ w) (λ h. omega arith) (λ h. omega arith) v3 in
    let v5 = cons_plain 84 (80 ∷ 47 ∷ 49 ∷ 46 ∷ w) (λ h. omega arith) (λ h. omega arith) v4 in
    let v6 = cons_plain 84 (84 ∷ 80 ∷ 47 ∷ 49 ∷ 46 ∷ w) (λ h. omega arith) (λ h. omega arith) v5 in
    cons_plain 72 (84 ∷ 84 ∷ 80 ∷ 47 ∷ 49 ∷ 46 ∷ w) (λ h. omega arith) (λ h. omega arith) v6

count_request : (m t v e s : List ℕ) → length (m ++ 32 ∷ t ++ 32 ∷ v ++ e ++ s) ≡ length m + 1 + length t + 1 + length v + length e + length s
count_request m t v e s = grind (arith, length-append)

-- a head that begins with no empty line has its first one at its end
pub head_ends : (h : RequestHead) (buf rest : List ℕ) → HasNoBlank h → ReadsRequest buf h rest → empty_line_end 0 false buf ≡ Some (length (print_request h))
unfolding print_request
head_ends h buf rest none reads =
    let parts = reads.0 in
    let section_text = print_section h.fields h.last ++ rest in
    let t5 = print_end h.line_end ++ section_text in
    let t4 = print_version h.minor ++ t5 in
    let t3 = 32 ∷ t4 in
    let t2 = h.target ++ t3 in
    let t1 = 32 ∷ t2 in
    let n1 = 0 + length h.method in
    let n2 = n1 + 1 + length h.target in
    let n3 = n2 + 1 + length (print_version h.minor) in
    let n4 = n3 + length (print_end h.line_end) in
    let count : n4 + length (print_section h.fields h.last) ≡ length (print_request h) = omega (arith, count_request h.method h.target (print_version h.minor) (print_end h.line_end) (print_section h.fields h.last), ap (λ b. length (print_blank b ++ h.method ++ 32 ∷ h.target ++ 32 ∷ print_version h.minor ++ print_end h.line_end ++ print_section h.fields h.last)) none) in
    ap (empty_line_end 0 false) (reads.1 ∙ print_request-append h rest ∙ ap (λ b. print_blank b ++ (h.method ++ 32 ∷ (h.target ++ 32 ∷ (print_version h.minor ++ (print_end h.line_end ++ section_text))))) none)
    ∙ words h.method t1 0 (plain_all is_token_byte token_plain h.method parts.method.1)
    ∙ step n1 false 32 t2 ((λ e. omega arith), (λ e. omega arith))
    ∙ words h.target t3 (n1 + 1) (plain_all is_uri_byte uri_plain h.target parts.target.1)
    ∙ step n2 false 32 t4 ((λ e. omega arith), (λ e. omega arith))
    ∙ words (print_version h.minor) t5 (n2 + 1) (version_plain h.minor parts.minor)
    ∙ ends h.line_end section_text n3
    ∙ section h.fields h.last rest n4 parts.fields
    ∙ ap Some count

-- The laws of the rows and edits of a change.
use Rattle.std.proofs.Common.{◌≡◌, ◌≢◌, ℕ, zero, suc, ◌+◌, ◌-◌, ◌*◌, ◌<◌, ◌≤◌, Bool, true, false, cond, leb, List, [], ◌∷◌, ◌++◌, length, Option, Some, None, refl, sym, ap, subst, ◌∙◌, arith, ℤ, pos, negsuc}
use Rattle.std.specs.Prelude.{IsUtf8, is_none, is_some, unwrap_or, nat_eq, FitsSigned, ◌&&◌, ◌==◌}
use Rattle.std.specs.Int.{w16, w32, w64, cast_unsigned, cast_signed}
use Rattle.std.specs.Str.{is_utf8}
use Rattle.std.specs.Cmp.Lexicographic.{pointwise, bytes_decides}
use Rattle.std.proofs.lemmas.Bool.{and_parts, and_from, leb-true, le-leb, false≢true}
use Rattle.std.proofs.lemmas.Option.{option_and_then_some, same_Some, cond_some}
use Rattle.std.proofs.lemmas.Int.{ints, to_z-of_z, of_z-to_z}
use Rattle.std.proofs.lemmas.List.{length-append}
use Rattle.std.proofs.lemmas.Str.{IsUtf8-from_is_utf8, is_utf8-from_IsUtf8}
use Rattle.arti_rows.specs.Key.{Key, whole_of, path_of, name_of}
use Rattle.arti_rows.specs.Names.{IsKey, key_fault}
use Rattle.arti_rows.specs.Moments.{IsMoment, is_moment}
use Rattle.arti_rows.specs.MomentLaws.{is_moment-true, IsMoment-passes}
use Rattle.arti_rows.specs.PropTexts.{property_cmp}
use Rattle.arti_rows.specs.Sizes.{most_content}
use Rattle.arti_rows.specs.declared.fault.KeyFault.{KeyFault}
use Rattle.arti_rows.specs.declared.rows.Given.{Given}
use Rattle.arti_rows.specs.declared.rows.Class.{Class}
use Rattle.arti_rows.specs.declared.rows.Class.TheVariants.{Local, Remote, Virtual}
use Rattle.arti_codec.specs.Format.{Format, ◌⨟◌, of_parts, where_holds, number, bit, flag, run, IsThere, optional}
use Rattle.arti_codec.specs.Reading.{◌▷◌, made, run_at, flag_at, number_at, optional_at}
use Rattle.arti_codec.specs.Rules.{is_build_name, is_property, ascends, are_prop_keys, is_definition}
use Rattle.arti_codec.specs.ChangeBytes.{text, moment, item_key, property, properties, digests, file_ref, given, which, some_digests, flagged, stat, stamps, stamps_of, held, held_of, item_row, promotion, artifact, dependency, module_row, build_name, build_parts, build_info, info_of, added, added_of, build_row, class_number, class_byte, text_or_none, definition, prop_keys, file_fields, set_fields, drop_fields, promote_fields}
use Rattle.arti_codec.specs.ReadingRows.{text_at, moment_at, is_key, item_key_at, property_at, properties_at, digests_at, file_ref_at, given_of, given_at, some_digests_at, flagged_at, stat_at, stamps_at, held_at, item_row_of, item_row_at, promotion_at, artifact_at, dependency_at, module_row_at, build_name_at, body_at, build_parts_at, build_info_at, added_at, build_row_of, build_row_at, class_of, class_at, none_if_empty, text_or_none_at, patterns_at, definition_parts_at, definition_at, prop_keys_at, file_fields_at, set_fields_at, drop_fields_at, promote_fields_at}
use Rattle.arti_codec.proofs.FieldLaws.{Took, IsRead, pair_law, parts_law, where_law, behind_law, run_law, wide_16, wide_32, wide_64, number_law, code_law, optional_law, listed_law, limited_law, most_law}

pub text_law : IsRead text text_at
unfolding text text_at
text_law = where_law IsUtf8 is_utf8 IsUtf8-from_is_utf8 is_utf8-from_IsUtf8 (behind_law length run run_at (λ n t fits. fits.0) (most_law 4096 (number_law w16 wide_16)) run_law)

moment_fits : (ms : ℤ) → IsMoment ms → FitsSigned w64 ms
moment_fits (pos n) h = omega (arith, ints, h.1)
moment_fits (negsuc n) h = omega (arith, ints, h.0)

pub moment_law : IsRead moment moment_at
unfolding moment moment_at number
moment_law = record {
  takes = λ bytes x rest fits e.
      option_and_then_some (λ a. cond (is_moment a.0) (Some a) None) (made (cast_signed w64) (number_at w64) bytes) (x, rest) e
      (λ a read-a last.
      let c = cond_some (is_moment a.0) a (x, rest) last in
      option_and_then_some (λ n. Some (cast_signed w64 n.0, n.1)) (number_at w64 bytes) a read-a
      (λ n read-n made-a.
      let t = (number_law w64 wide_64).takes bytes n.0 n.1 fits read-n in
      let back : cast_unsigned w64 (cast_signed w64 n.0) ≡ n.0 = of_z-to_z w64 n.0 t.0 in
      let same : (cast_signed w64 n.0, n.1) ≡ (x, rest) = same_Some (cast_signed w64 n.0, n.1) a made-a ∙ c.1 in
      let good : is_moment (cast_signed w64 n.0) ≡ true = ap (λ (y : ℤ × List ℕ). is_moment y.0) (same_Some (cast_signed w64 n.0, n.1) a made-a) ∙ c.0 in
      let u : Took (number w64) bytes (cast_unsigned w64 (cast_signed w64 n.0)) n.1 = subst (λ (k : ℕ). Took (number w64) bytes k n.1) (sym back) t in
      subst (λ (y : ℤ × List ℕ). Took (where_holds IsMoment (of_parts (cast_unsigned w64) (number w64))) bytes y.0 y.1) same ((u.0, is_moment-true (cast_signed w64 n.0) good), u.1, u.2)));
  again = λ x rest fits.
      let one = (number_law w64 wide_64).again (cast_unsigned w64 x) rest fits.0 in
      let back : cast_signed w64 (cast_unsigned w64 x) ≡ x = to_z-of_z w64 x (moment_fits x fits.1) in
      rw (one, back, IsMoment-passes x fits.1) refl;
}

none_is : {A : Type 0} (o : Option A) → is_none o ≡ true → o ≡ None
none_is None e = refl
none_is (Some x) e = absurd (false≢true e)

key_holds : (k : Key) → is_key k ≡ true → IsKey k
unfolding is_key
key_holds k e =
    let fault = is_none (key_fault k.repo (whole_of k)) in
    let same_path = pointwise nat_eq (path_of (whole_of k)) k.path in
    let p = and_parts (fault && same_path) (pointwise nat_eq (name_of (whole_of k)) k.name) e in
    let q = and_parts fault same_path p.0 in
    let path : path_of (whole_of k) ≡ k.path = (bytes_decides (path_of (whole_of k)) k.path).0 q.1 in
    let name : name_of (whole_of k) ≡ k.name = (bytes_decides (name_of (whole_of k)) k.name).0 p.1 in
    record {
      good = none_is (key_fault k.repo (whole_of k)) q.0;
      cut = ap (λ (t : List ℕ). record { repo = k.repo; path = t; name = name_of (whole_of k) }) path ∙ ap (λ (t : List ℕ). record { repo = k.repo; path = k.path; name = t }) name;
    }

key_passes : (k : Key) → IsKey k → is_key k ≡ true
unfolding is_key
key_passes k h =
    let path : path_of (whole_of k) ≡ k.path = ap (λ (y : Key). y.path) h.cut in
    let name : name_of (whole_of k) ≡ k.name = ap (λ (y : Key). y.name) h.cut in
    let fault = is_none (key_fault k.repo (whole_of k)) in
    let same_path = pointwise nat_eq (path_of (whole_of k)) k.path in
    let same_name = pointwise nat_eq (name_of (whole_of k)) k.name in
    and_from (fault && same_path) same_name
    (and_from fault same_path (ap (λ (o : Option KeyFault). is_none o) h.good) ((bytes_decides (path_of (whole_of k)) k.path).1 path))
    ((bytes_decides (name_of (whole_of k)) k.name).1 name)

pub item_key_law : IsRead item_key item_key_at
unfolding item_key item_key_at
item_key_law = where_law IsKey is_key key_holds key_passes (parts_law (λ k. (k.repo, (k.path, k.name))) (λ t. record { repo = t.0; path = t.1.0; name = t.1.1 }) (λ a. refl) (λ b. refl) (pair_law text_law (pair_law text_law text_law)))

pub property_law : IsRead property property_at
unfolding property property_at
property_law = where_law (λ p. is_property p ≡ true) is_property (λ p e. e) (λ p e. e) (parts_law (λ p. (p.key, p.value)) (λ t. record { key = t.0; value = t.1 }) (λ a. refl) (λ b. refl) (pair_law text_law text_law))

pub properties_law : (most : ℕ) → IsRead (properties most) (properties_at most)
unfolding properties properties_at
properties_law most = where_law (λ ps. ascends property_cmp ps ≡ true) (ascends property_cmp) (λ ps e. e) (λ ps e. e) (limited_law w16 most wide_16 property_law)

pub digests_law : IsRead digests digests_at
unfolding digests digests_at
digests_law = parts_law (λ d. (d.md5, (d.sha1, d.sha256))) (λ t. record { md5 = t.0; sha1 = t.1.0; sha256 = t.1.1 }) (λ a. refl) (λ b. refl) (pair_law (run_law 16) (pair_law (run_law 20) (run_law 32)))

pub file_ref_law : IsRead file_ref file_ref_at
unfolding file_ref file_ref_at
file_ref_law = parts_law (λ f. (f.place, (f.len, f.digests))) (λ t. record { place = t.0; len = t.1.0; digests = t.1.1 }) (λ a. refl) (λ b. refl) (pair_law (number_law w64 wide_64) (pair_law (most_law most_content (number_law w64 wide_64)) digests_law))

flag_small : (b : Bool) → bit b < 2
flag_small true = omega arith
flag_small false = omega arith

flag_back : (b : Bool) → (bit b == 1) ≡ b
flag_back true = refl
flag_back false = refl

flag_there : (n : ℕ) → n < 2 → bit (n == 1) ≡ n
flag_there zero h = refl
flag_there (suc zero) h = refl
flag_there (suc (suc n)) h = absurd (omega arith)

pub flag_law : IsRead flag flag_at
unfolding flag_at
flag_law = code_law 2 bit (λ b. b == 1) flag_small flag_back flag_there

abbrev given_bits : Given → ℕ
given_bits g = bit g.md5 + 2 * bit g.sha1 + 4 * bit g.sha256

given_small : (a b c : Bool) → given_bits (record { md5 = a; sha1 = b; sha256 = c }) < 8
given_small true true true = omega arith
given_small true true false = omega arith
given_small true false true = omega arith
given_small true false false = omega arith
given_small false true true = omega arith
given_small false true false = omega arith
given_small false false true = omega arith
given_small false false false = omega arith

given_back : (a b c : Bool) → given_of (given_bits (record { md5 = a; sha1 = b; sha256 = c })) ≡ record { md5 = a; sha1 = b; sha256 = c }
given_back true true true = refl
given_back true true false = refl
given_back true false true = refl
given_back true false false = refl
given_back false true true = refl
given_back false true false = refl
given_back false false true = refl
given_back false false false = refl

given_there : (n : ℕ) → n < 8 → given_bits (given_of n) ≡ n
given_there zero h = refl
given_there (suc zero) h = refl
given_there (suc (suc zero)) h = refl
given_there (suc (suc (suc zero))) h = refl
given_there (suc (suc (suc (suc zero)))) h = refl
given_there (suc (suc (suc (suc (suc zero))))) h = refl
given_there (suc (suc (suc (suc (suc (suc zero)))))) h = refl
given_there (suc (suc (suc (suc (suc (suc (suc zero))))))) h = refl
given_there (suc (suc (suc (suc (suc (suc (suc (suc n)))))))) h = absurd (omega arith)

pub given_law : IsRead given given_at
unfolding given given_at
given_law = code_law 8 given_bits given_of (λ g. given_small g.md5 g.sha1 g.sha256) (λ g. given_back g.md5 g.sha1 g.sha256) given_there

there_is : {A : Type 0} (P : A → Type 0) (b : Bool) (o : Option A) → IsThere P b o → is_some o ≡ b
there_is P b None h = sym h
there_is P b (Some x) h = sym h.0

pub some_digests_law : IsRead some_digests some_digests_at
unfolding some_digests some_digests_at
some_digests_law = behind_law which
    (λ g. of_parts (λ d. (d.md5, (d.sha1, d.sha256))) (optional g.md5 (run 16) ⨟ optional g.sha1 (run 20) ⨟ optional g.sha256 (run 32)))
    (λ g. made (λ t. record { md5 = t.0; sha1 = t.1.0; sha256 = t.1.1 }) (optional_at g.md5 (run_at 16) ▷ optional_at g.sha1 (run_at 20) ▷ optional_at g.sha256 (run_at 32)))
    (λ g d fits. ap (λ (b : Bool). record { md5 = b; sha1 = is_some d.sha1; sha256 = is_some d.sha256 }) (there_is (run 16).keeps g.md5 d.md5 fits.0)
    ∙ ap (λ (b : Bool). record { md5 = g.md5; sha1 = b; sha256 = is_some d.sha256 }) (there_is (run 20).keeps g.sha1 d.sha1 fits.1.0)
    ∙ ap (λ (b : Bool). record { md5 = g.md5; sha1 = g.sha1; sha256 = b }) (there_is (run 32).keeps g.sha256 d.sha256 fits.1.1))
    given_law
    (λ g. parts_law (λ d. (d.md5, (d.sha1, d.sha256))) (λ t. record { md5 = t.0; sha1 = t.1.0; sha256 = t.1.1 }) (λ a. refl) (λ b. refl)
    (pair_law (optional_law g.md5 (run_law 16)) (pair_law (optional_law g.sha1 (run_law 20)) (optional_law g.sha256 (run_law 32)))))

pub flagged_law : {A : Type 0} {f : Format A} {r : List ℕ → Option (A × List ℕ)} → IsRead f r → IsRead (flagged f) (flagged_at r)
flagged_law {f = f} {r = r} p = behind_law is_some (λ there. optional there f) (λ there. optional_at there r) (λ b o fits. there_is f.keeps b o fits) flag_law (λ there. optional_law there p)

pub stat_law : IsRead stat stat_at
unfolding stat stat_at
stat_law = parts_law (λ s. (s.downloads, (s.downloaded, s.downloaded_by))) (λ t. record { downloads = t.0; downloaded = t.1.0; downloaded_by = t.1.1 }) (λ a. refl) (λ b. refl) (pair_law (number_law w64 wide_64) (pair_law moment_law text_law))

pub stamps_law : IsRead stamps stamps_at
unfolding stamps stamps_at
stamps_law = pair_law moment_law (pair_law text_law (pair_law moment_law (pair_law text_law moment_law)))

pub held_law : IsRead held held_at
unfolding held held_at
held_law = pair_law given_law (pair_law (flagged_law file_ref_law) (pair_law (properties_law 1024) (flagged_law stat_law)))

pub item_row_law : IsRead item_row item_row_at
unfolding item_row item_row_at
item_row_law = parts_law (λ r. (r.key, (stamps_of r, held_of r))) item_row_of (λ a. refl) (λ b. refl) (pair_law item_key_law (pair_law stamps_law held_law))

pub promotion_law : IsRead promotion promotion_at
unfolding promotion promotion_at
promotion_law = parts_law (λ p. (p.created, (p.created_by, (p.status, (p.repo, (p.comment, p.user))))))
    (λ t. record { created = t.0; created_by = t.1.0; status = t.1.1.0; repo = t.1.1.1.0; comment = t.1.1.1.1.0; user = t.1.1.1.1.1 }) (λ a. refl) (λ b. refl)
    (pair_law moment_law (pair_law text_law (pair_law text_law (pair_law text_law (pair_law text_law text_law)))))

pub artifact_law : IsRead artifact artifact_at
unfolding artifact artifact_at
artifact_law = parts_law (λ a. (a.name, (a.kind, a.digests))) (λ t. record { name = t.0; kind = t.1.0; digests = t.1.1 }) (λ a. refl) (λ b. refl) (pair_law text_law (pair_law text_law some_digests_law))

pub dependency_law : IsRead dependency dependency_at
unfolding dependency dependency_at
dependency_law = parts_law (λ d. (d.id, (d.kind, (d.scopes, d.digests)))) (λ t. record { id = t.0; kind = t.1.0; scopes = t.1.1.0; digests = t.1.1.1 }) (λ a. refl) (λ b. refl)
    (pair_law text_law (pair_law text_law (pair_law (limited_law w16 1024 wide_16 text_law) some_digests_law)))

pub module_row_law : IsRead module_row module_row_at
unfolding module_row module_row_at
module_row_law = parts_law (λ m. (m.id, (m.artifacts, m.dependencies))) (λ t. record { id = t.0; artifacts = t.1.0; dependencies = t.1.1 }) (λ a. refl) (λ b. refl)
    (pair_law text_law (pair_law (listed_law w32 wide_32 artifact_law) (listed_law w32 wide_32 dependency_law)))

pub build_name_law : IsRead build_name build_name_at
unfolding build_name build_name_at
build_name_law = where_law (λ name. is_build_name name ≡ true) is_build_name (λ n e. e) (λ n e. e) text_law

pub build_parts_law : IsRead build_parts build_parts_at
unfolding build_parts build_parts_at body_at
build_parts_law = parts_law (λ b. (b.name, (b.number, (b.started, (b.url, (b.props, (b.modules, b.document)))))))
    (λ t. record { name = t.0; number = t.1.0; started = t.1.1.0; url = t.1.1.1.0; props = t.1.1.1.1.0; modules = t.1.1.1.1.1.0; document = t.1.1.1.1.1.1 }) (λ a. refl) (λ b. refl)
    (pair_law build_name_law (pair_law build_name_law (pair_law moment_law (pair_law text_law (pair_law (properties_law 8192) (pair_law (listed_law w32 wide_32 module_row_law) (behind_law length run run_at (λ n t fits. fits.0) (number_law w32 wide_32) run_law)))))))

pub build_info_law : IsRead build_info build_info_at
unfolding build_info build_info_at
build_info_law = record {
  takes = λ bytes x rest fits e.
      option_and_then_some (λ a. cond (leb (length bytes - length a.1) 33554432) (Some a) None) (build_parts_at bytes) (x, rest) e
      (λ a read-a last.
      let c = cond_some (leb (length bytes - length a.1) 33554432) a (x, rest) last in
      let t = build_parts_law.takes bytes a.0 a.1 fits read-a in
      let long : length (build_parts.spell a.0) ≤ 33554432 = omega (arith, leb-true _ _ c.0, ap (λ (w : List ℕ). length w) t.1, length-append (build_parts.spell a.0) a.1) in
      subst (λ (y : _ × List ℕ). Took build_info bytes y.0 y.1) c.1 ((t.0, long), t.1, t.2));
  again = λ x rest fits.
      let one = build_parts_law.again x rest fits.0 in
      let short : leb (length (build_parts.spell x ++ rest) - length rest) 33554432 ≡ true = le-leb _ _ (omega (arith, fits.1, length-append (build_parts.spell x) rest)) in
      rw (one, short) refl;
}

pub added_law : IsRead added added_at
unfolding added added_at
added_law = pair_law moment_law (pair_law text_law (pair_law moment_law (pair_law text_law (limited_law w32 1024 wide_32 promotion_law))))

pub build_row_law : IsRead build_row build_row_at
unfolding build_row build_row_at
build_row_law = parts_law (λ b. (info_of b, added_of b)) build_row_of (λ a. refl) (λ b. refl) (pair_law build_info_law added_law)

class_small : (c : Class) → class_number c < 3
class_small Local = omega arith
class_small Remote = omega arith
class_small Virtual = omega arith

class_back : (c : Class) → class_of (class_number c) ≡ c
class_back Local = refl
class_back Remote = refl
class_back Virtual = refl

class_there : (n : ℕ) → n < 3 → class_number (class_of n) ≡ n
class_there zero h = refl
class_there (suc zero) h = refl
class_there (suc (suc zero)) h = refl
class_there (suc (suc (suc n))) h = absurd (omega arith)

pub class_law : IsRead class_byte class_at
unfolding class_byte class_at
class_law = code_law 3 class_number class_of class_small class_back class_there

none_or : (t : List ℕ) → unwrap_or (none_if_empty t) [] ≡ t
none_or [] = refl
none_or (b ∷ t) = refl

none_back : (o : Option (List ℕ)) → o ≢ Some [] → none_if_empty (unwrap_or o []) ≡ o
none_back None h = refl
none_back (Some []) h = absurd (h refl)
none_back (Some (b ∷ t)) h = refl

none_never : (t : List ℕ) → none_if_empty t ≢ Some []
none_never [] e = absurd cc
none_never (b ∷ t) e = absurd cc

pub text_or_none_law : IsRead text_or_none text_or_none_at
unfolding text_or_none text_or_none_at
text_or_none_law = record {
  takes = λ bytes x rest fits e.
      option_and_then_some (λ a. Some (none_if_empty a.0, a.1)) (text_at bytes) (x, rest) e
      (λ a read-a last.
      let t = text_law.takes bytes a.0 a.1 fits read-a in
      let u : Took text bytes (unwrap_or (none_if_empty a.0) []) a.1 = subst (λ (v : List ℕ). Took text bytes v a.1) (sym (none_or a.0)) t in
      subst (λ (y : Option (List ℕ) × List ℕ). Took (where_holds (λ t. t ≢ Some []) (of_parts (λ t. unwrap_or t []) text)) bytes y.0 y.1) (same_Some (none_if_empty a.0, a.1) (x, rest) last) ((u.0, none_never a.0), u.1, u.2));
  again = λ x rest fits. rw (text_law.again (unwrap_or x []) rest fits.0) (ap (λ (o : Option (List ℕ)). Some (o, rest)) (none_back x fits.1));
}

pub definition_law : IsRead definition definition_at
unfolding definition definition_at definition_parts_at patterns_at
definition_law = where_law (λ d. is_definition d ≡ true) is_definition (λ d e. e) (λ d e. e)
    (parts_law (λ d. (d.key, (d.class, (d.url, (d.members, (d.default_to, (d.includes, d.excludes)))))))
    (λ t. record { key = t.0; class = t.1.0; url = t.1.1.0; members = t.1.1.1.0; default_to = t.1.1.1.1.0; includes = t.1.1.1.1.1.0; excludes = t.1.1.1.1.1.1 }) (λ a. refl) (λ b. refl)
    (pair_law text_law (pair_law class_law (pair_law text_law (pair_law (limited_law w16 256 wide_16 text_law) (pair_law text_or_none_law (pair_law text_law text_law)))))))

pub prop_keys_law : IsRead prop_keys prop_keys_at
unfolding prop_keys prop_keys_at
prop_keys_law = where_law (λ keys. are_prop_keys keys ≡ true) are_prop_keys (λ k e. e) (λ k e. e) (listed_law w16 wide_16 text_law)

pub file_fields_law : IsRead file_fields file_fields_at
unfolding file_fields file_fields_at
file_fields_law = pair_law item_key_law (pair_law given_law (pair_law file_ref_law (properties_law 1024)))

pub set_fields_law : IsRead set_fields set_fields_at
unfolding set_fields set_fields_at
set_fields_law = pair_law item_key_law (pair_law flag_law (properties_law 1024))

pub drop_fields_law : IsRead drop_fields drop_fields_at
unfolding drop_fields drop_fields_at
drop_fields_law = pair_law item_key_law (pair_law flag_law prop_keys_law)

pub promote_fields_law : IsRead promote_fields promote_fields_at
unfolding promote_fields promote_fields_at
promote_fields_law = pair_law build_name_law (pair_law build_name_law promotion_law)

-- What a change of digests does to the lists of each feature.
use Rattle.std.proofs.Common.{◌≡◌, ℕ, Bool, true, false, List, [], refl, sym, ap, ◌∙◌, Option, Some, None, subst}
use Rattle.std.specs.Prelude.{if◌then◌else◌}
use Rattle.std.specs.Ordering.{nat_cmp}
use Rattle.std.specs.Cmp.Lexicographic.{slice_cmp}
use Rattle.std.specs.Str.{bytes_eq}
use Rattle.std.specs.BTreeMap.{is_at}
use Rattle.std.proofs.lemmas.Map.Text.{is_eq-slice_cmp}
use Rattle.std.proofs.lemmas.Slice.Eq.{bytes_eq-Decides}
use Rattle.arti_rows.specs.declared.rows.Digests.{Digests}
use Rattle.std.specs.Prelude.{String}
use Rattle.std.specs.BTreeMap.{BTreeMap}
use Rattle.std.specs.declared.alloc.Global.{Global}
use Rattle.arti_ids.specs.Ids.{with_id}
use Rattle.arti_ids.specs.declared.text_lists.TextLists.{TextLists}
use Rattle.arti_props.specs.declared.index.Index.{Index}
use Rattle.arti_ids.specs.Ids.{IdList}
use Rattle.arti_ids.specs.Lists.{ids_of, IsReady}
use Rattle.arti_ids.specs.declared.lists.Lists.{Lists as Kept_lists}
use Rattle.arti_ids.specs.Found.{found as found_by}
use Rattle.arti_props.specs.Rows.{Feature, Pair, Md5, Sha1, Sha256, has_digest, has}
use Rattle.arti_props.specs.declared.row.Row.{Row}
use Rattle.std.specs.Option.{option_map_or}
use Rattle.std.proofs.lemmas.Bool.{false≢true}
use Rattle.arti_props.specs.Asked.{list_of}
use Rattle.arti_props.specs.Lists.{list_in, list_at}
use Rattle.arti_ids.specs.TextMapLaws.{no_entries}

abbrev pub Lists : Type 0
Lists = Kept_lists (List ℕ)

abbrev pub found : Lists → List ℕ → Option IdList
found lists digest = found_by (slice_cmp nat_cmp) lists digest

pub same_digest : (d : List ℕ) → bytes_eq d d ≡ true
same_digest d = (bytes_eq-Decides d d).1 refl

-- the list of one digest changes
abbrev pub Turns : (List ℕ → List ℕ) → List ℕ → Lists → Lists → Type 0
Turns op digest old new = (d : List ℕ) → ids_of (found new d) ≡ (if is_at (slice_cmp nat_cmp digest) d then op (ids_of (found old d)) else ids_of (found old d))

turn : (op : List ℕ → List ℕ) (digest : List ℕ) (old new : Lists) → Turns op digest old new → (d : List ℕ) → ids_of (found new d) ≡ (if bytes_eq digest d then op (ids_of (found old d)) else ids_of (found old d))
turn op digest old new turns d = turns d ∙ ap (λ (b : Bool). if b then op (ids_of (found old d)) else ids_of (found old d)) (is_eq-slice_cmp digest d)

pub turn_all : (op : List ℕ → List ℕ) (digests : Digests) (old new : Index) → new.values ≡ old.values → Turns op digests.md5 old.md5s new.md5s → Turns op digests.sha1 old.sha1s new.sha1s → Turns op digests.sha256 old.sha256s new.sha256s
    → (f : Feature) → ids_of (list_of new f) ≡ (if has_digest f digests then op (ids_of (list_of old f)) else ids_of (list_of old f))
turn_all op digests old new values md5 sha1 sha256 (Pair k v) = ap (λ m. ids_of (list_of (record old { values = m }) (Pair k v))) values
turn_all op digests old new values md5 sha1 sha256 (Md5 d) = turn op digests.md5 old.md5s new.md5s md5 d
turn_all op digests old new values md5 sha1 sha256 (Sha1 d) = turn op digests.sha1 old.sha1s new.sha1s sha1 d
turn_all op digests old new values md5 sha1 sha256 (Sha256 d) = turn op digests.sha256 old.sha256s new.sha256s sha256 d

abbrev pub Stays : Lists → Lists → Type 0
Stays old new = (d : List ℕ) → ids_of (found new d) ≡ ids_of (found old d)

pub stay_all : (old new : Index) → new.values ≡ old.values → Stays old.md5s new.md5s → Stays old.sha1s new.sha1s → Stays old.sha256s new.sha256s → (f : Feature) → ids_of (list_of new f) ≡ ids_of (list_of old f)
stay_all old new values md5 sha1 sha256 (Pair k v) = ap (λ m. ids_of (list_of (record old { values = m }) (Pair k v))) values
stay_all old new values md5 sha1 sha256 (Md5 d) = md5 d
stay_all old new values md5 sha1 sha256 (Sha1 d) = sha1 d
stay_all old new values md5 sha1 sha256 (Sha256 d) = sha256 d

abbrev pub Keeps : ℕ → Lists → Lists → Type 0
Keeps id old new = (d : List ℕ) → IsReady id (found old d) → IsReady id (found new d)

pub keep_all : (id : ℕ) (old new : Index) → new.values ≡ old.values → Keeps id old.md5s new.md5s → Keeps id old.sha1s new.sha1s → Keeps id old.sha256s new.sha256s → (f : Feature) → IsReady id (list_of old f) → IsReady id (list_of new f)
keep_all id old new values md5 sha1 sha256 (Pair k v) was = subst (λ m. IsReady id (list_of (record old { values = m }) (Pair k v))) (sym values) was
keep_all id old new values md5 sha1 sha256 (Md5 d) was = md5 d was
keep_all id old new values md5 sha1 sha256 (Sha1 d) was = sha1 d was
keep_all id old new values md5 sha1 sha256 (Sha256 d) was = sha256 d was

-- where a row has digests, what they have it has
pub digest_ready : (id : ℕ) (old new : Index) (digests : Digests) (row : Row) → new.md5s ≡ old.md5s → new.sha1s ≡ old.sha1s → new.sha256s ≡ old.sha256s → row.digests ≡ Some digests → ((f : Feature) → has f row ≡ true → IsReady id (list_of old f))
    → (f : Feature) → has_digest f digests ≡ true → IsReady id (list_of new f)
digest_ready id old new digests row md5 sha1 sha256 is ready (Pair k v) has = absurd (false≢true has)
digest_ready id old new digests row md5 sha1 sha256 is ready (Md5 d) has = subst (λ (m : Lists). IsReady id (found m d)) (sym md5) (ready (Md5 d) (ap (λ o. option_map_or (has_digest (Md5 d)) o false) is ∙ has))
digest_ready id old new digests row md5 sha1 sha256 is ready (Sha1 d) has = subst (λ (m : Lists). IsReady id (found m d)) (sym sha1) (ready (Sha1 d) (ap (λ o. option_map_or (has_digest (Sha1 d)) o false) is ∙ has))
digest_ready id old new digests row md5 sha1 sha256 is ready (Sha256 d) has = subst (λ (m : Lists). IsReady id (found m d)) (sym sha256) (ready (Sha256 d) (ap (λ o. option_map_or (has_digest (Sha256 d)) o false) is ∙ has))

-- no list where none is found
pub none_all : (index : Index) → index.values.entries ≡ [] → ((d : List ℕ) → found index.md5s d ≡ None) → ((d : List ℕ) → found index.sha1s d ≡ None) → ((d : List ℕ) → found index.sha256s d ≡ None) → (f : Feature) → ids_of (list_of index f) ≡ []
none_all index values md5 sha1 sha256 (Pair k v) = ap (λ o. ids_of (list_in o v)) (no_entries index.values k values)
none_all index values md5 sha1 sha256 (Md5 d) = ap ids_of (md5 d)
none_all index values md5 sha1 sha256 (Sha1 d) = ap ids_of (sha1 d)
none_all index values md5 sha1 sha256 (Sha256 d) = ap ids_of (sha256 d)

ready_of : (id : ℕ) (lists : Lists) (digest d : List ℕ) → IsReady id (found lists digest) → bytes_eq digest d ≡ true → IsReady id (found lists d)
ready_of id lists digest d ready same = subst (λ (e : List ℕ). IsReady id (found lists e)) ((bytes_eq-Decides digest d).0 same) ready

-- ready for each of the digests
pub ready_all : (id : ℕ) (digests : Digests) (index : Index) → IsReady id (found index.md5s digests.md5) → IsReady id (found index.sha1s digests.sha1) → IsReady id (found index.sha256s digests.sha256) → (f : Feature) → has_digest f digests ≡ true → IsReady id (list_of index f)
ready_all id digests index md5 sha1 sha256 (Pair k v) has = absurd (false≢true has)
ready_all id digests index md5 sha1 sha256 (Md5 d) has = ready_of id index.md5s digests.md5 d md5 has
ready_all id digests index md5 sha1 sha256 (Sha1 d) has = ready_of id index.sha1s digests.sha1 d sha1 has
ready_all id digests index md5 sha1 sha256 (Sha256 d) has = ready_of id index.sha256s digests.sha256 d sha256 has

-- an id comes back into the list of each feature where it does into those of pairs
pub pair_others : (id : ℕ) (old : Index) (values : BTreeMap (String Global) TextLists) → ((k v : List ℕ) → with_id id (ids_of (list_at values k v)) ≡ with_id id (ids_of (list_at old.values k v)))
    → (f : Feature) → with_id id (ids_of (list_of (record old { values = values }) f)) ≡ with_id id (ids_of (list_of old f))
pair_others id old values others (Pair k v) = others k v
pair_others id old values others (Md5 d) = refl
pair_others id old values others (Sha1 d) = refl
pair_others id old values others (Sha256 d) = refl

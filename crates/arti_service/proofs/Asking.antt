-- What a request asks that names an item, or is a query.
use Rattle.std.proofs.Common.{◌≡◌, Bool, true, false, cond, List, length, ℕ, sym, ap, refl}
use Rattle.std.specs.Prelude.{◌&&◌, IsTrue, Some, None, drop, nat_eq}
use Rattle.std.specs.List.{starts_with}
use Rattle.std.proofs.lemmas.Bool.{false≢true}
use Rattle.arti_rows.specs.Key.{Key, key_of}
use Rattle.arti_model.specs.Requests.{Request}
use Rattle.arti_model.specs.Store.{local_key}
use Rattle.arti_model.specs.Heads.{is_plain, is_query, item_asked, target_item, local_front, is_plain_path}
use Rattle.arti_model.specs.Run.{is_reading}

second : (a b : Bool) → (a && b) ≡ true → b ≡ true
second true b e = e
second false b e = absurd (false≢true e)

true_is : (b : Bool) → b ≡ true → IsTrue b
true_is true e = refl
true_is false e = absurd (false≢true e)

pub known_to_read : (q : Request) → (is_plain q && is_query q) ≡ true → IsTrue (is_reading q)
known_to_read q e = true_is (is_query q) (second (is_plain q) (is_query q) e)

-- the item that a request names is the local repository's
pub item_local : (q : Request) (key : Key) → item_asked q ≡ Some key → key.repo ≡ local_key
item_local q key e = by (is_plain q) e
  where
    by_target : (b : Bool) (path : List ℕ) → cond b (Some (key_of local_key path)) None ≡ Some key → key.repo ≡ local_key
    by_target true path is = let same : key_of local_key path ≡ key = cc is in sym (ap (λ (k : Key). k.repo) same)
    by_target false path is = absurd (cc is)

    by : (b : Bool) → cond b (target_item q.target) None ≡ Some key → key.repo ≡ local_key
    by true is = by_target (starts_with nat_eq q.target local_front && is_plain_path (drop (length local_front) q.target)) (drop (length local_front) q.target) is
    by false is = absurd (cc is)

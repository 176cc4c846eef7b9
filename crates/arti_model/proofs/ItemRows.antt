-- What is decided of requests for items, computed on a small repository whose contents are numbers.
use Rattle.std.specs.Prelude.{◌≡◌, refl, ℕ, pos, true, false, codes, map, List, [], ◌∷◌, ◌++◌, Some, None}
use Rattle.std.specs.List.{join_with_byte}
use Rattle.std.proofs.Common.{arith}
use Rattle.json.specs.Print.{quoted}
use Rattle.arti_rows.specs.Key.{Key, key_of}
use Rattle.arti_rows.specs.declared.rows.SomeDigests.{SomeDigests}
use Rattle.arti_rows.specs.declared.edits.Edit.TheVariants as edits
use Rattle.arti_rows.specs.declared.refusal.Refusal.TheVariants as refusal
use Rattle.arti_rows.specs.declared.refusal.Which.TheVariants.{Items}
use Rattle.arti_model.specs.Bodies.{text_members}
use Rattle.arti_model.specs.Decide.{Decision, Refused, Tells, Makes, Reply, json}
use Rattle.arti_model.specs.DecideItems.{Looks, one_edit, done, content_of, plain_text, decide_items}
use Rattle.arti_model.specs.declared.asks.AskRow.{AskRow}
use Rattle.arti_model.specs.declared.asks.AskRow.TheVariants as row
use Rattle.arti_model.proofs.EditRows.{at, items, limits_of}

-- a content's digests are its number
abbrev looks : Looks ℕ
looks = record {
  digests = λ n. record { md5 = n ∷ []; sha1 = n ∷ []; sha256 = n ∷ [] };
  size = λ n. n;
  reference = λ n. record { place = 0; len = n; digests = record { md5 = []; sha1 = []; sha256 = [] } };
}

abbrev no_digests : SomeDigests
no_digests = record { md5 = None; sha1 = None; sha256 = None }

-- what `you` ask at moment 5 with a body whose content is 6, where there may be nine items
abbrev asked : AskRow → Decision ℕ
asked ask = decide_items looks (limits_of 9 (omega arith) (omega arith)) items (pos 5) (codes "you") 6 ask (Refused (refusal.NotYet None))

-- where there may be five, as many as there are
abbrev asked_when_full : AskRow → Decision ℕ
asked_when_full ask = decide_items looks (limits_of 5 (omega arith) (omega arith)) items (pos 5) (codes "you") 6 ask (Refused (refusal.NotYet None))

abbrev folder_told : List ℕ → Reply ℕ
folder_told path = json 201 (123 ∷ (text_members ((codes "repo", codes "generic-local") ∷ (codes "path", path) ∷ []) ++ codes "}"))

abbrev member : List ℕ → List (List ℕ) → List ℕ
member key values = quoted key ++ codes ":[" ++ join_with_byte 44 (map quoted values) ++ codes "]"

abbrev props_told : List (List ℕ) → Reply ℕ
props_told members = json 200 (codes "{\"properties\":{" ++ join_with_byte 44 members ++ codes "}}")

abbrev message_told : List ℕ → Reply ℕ
message_told message = json 200 (codes "{\"messages\":[{\"level\":\"INFO\",\"message\":" ++ quoted message ++ codes "}]}")

abbrev elsewhere : Key
elsewhere = key_of (codes "libs") (codes "a")

-- ---- deploys and folders

below_a_file : asked (row.Deploy (at (codes "a/b.txt/c")) [] no_digests false) ≡ Refused (refusal.FileAbove (at (codes "a/b.txt")))
below_a_file = refl

onto_a_folder : asked (row.Deploy (at (codes "a")) [] no_digests false) ≡ Refused (refusal.FolderHere (at (codes "a")))
onto_a_folder = refl

other_digest : asked (row.Deploy (at (codes "n")) [] (record no_digests { sha1 = Some (7 ∷ []) }) false) ≡ Refused (refusal.ChecksumMismatch (codes "sha1"))
other_digest = refl

nothing_found : asked (row.Deploy (at (codes "n")) [] (record no_digests { sha1 = Some (6 ∷ []) }) true) ≡ Refused refusal.NoContent
nothing_found = refl

no_room : asked_when_full (row.Deploy (at (codes "n")) [] no_digests false) ≡ Refused (refusal.Full Items)
no_room = refl

digest_before_room : asked_when_full (row.Deploy (at (codes "n")) [] (record no_digests { md5 = Some [] }) false) ≡ Refused (refusal.ChecksumMismatch (codes "md5"))
digest_before_room = refl

unknown_repository : asked (row.Deploy elsewhere [] no_digests false) ≡ Refused (refusal.NoRepo (codes "libs"))
unknown_repository = refl

folder_there : asked_when_full (row.Folder (at (codes "a"))) ≡ Tells (folder_told (codes "/a/"))
folder_there = refl

folder_made : asked (row.Folder (at (codes "b"))) ≡ Makes (one_edit (pos 5) (codes "you") (edits.Folder (at (codes "b")))) (λ ref. 6) (folder_told (codes "/b/"))
folder_made = refl

folder_on_a_file : asked (row.Folder (at (codes "a.txt"))) ≡ Refused (refusal.FileHere (at (codes "a.txt")))
folder_on_a_file = refl

-- ---- what is there

fetched : asked (row.Fetch (at (codes "a.txt"))) ≡ Makes (one_edit (pos 5) (codes "you") (edits.Downloaded (at (codes "a.txt")))) (λ ref. 7) (content_of looks 7)
fetched = refl

no_folder_is_fetched : asked (row.Fetch (at (codes "a"))) ≡ Refused (refusal.NotFound (at (codes "a")))
no_folder_is_fetched = refl

head : asked (row.Head (at (codes "a.txt"))) ≡ Tells (content_of looks 7)
head = refl

head_elsewhere : asked (row.Head elsewhere) ≡ Refused (refusal.NoRepo (codes "libs"))
head_elsewhere = refl

all_properties : asked (row.GetProps (at (codes "a/b.txt")) None) ≡ Tells (props_told (member (codes "k") (codes "old" ∷ []) ∷ member (codes "z") (codes "1" ∷ []) ∷ []))
all_properties = refl

named_properties : asked (row.GetProps (at (codes "a/b.txt")) (Some (codes "z,y"))) ≡ Tells (props_told (member (codes "z") (codes "1" ∷ []) ∷ []))
named_properties = refl

no_properties : asked (row.GetProps (at (codes "a")) None) ≡ Tells (props_told [])
no_properties = refl

empty_key : asked (row.GetProps elsewhere (Some [])) ≡ Refused refusal.BadProps
empty_key = refl

-- ---- changes

dropped : asked (row.DropProps (at (codes "a/b.txt")) (codes "k") false)
    ≡ Makes (one_edit (pos 5) (codes "you") (edits.DropProps (at (codes "a/b.txt")) false (codes "k" ∷ []))) (λ ref. 6) done
dropped = refl

deleted : asked (row.Delete (at (codes "a"))) ≡ Makes (one_edit (pos 5) (codes "you") (edits.Remove (at (codes "a")))) (λ ref. 6) done
deleted = refl

nothing_to_delete : asked (row.Delete (at (codes "d"))) ≡ Refused (refusal.NotFound (at (codes "d")))
nothing_to_delete = refl

moved : asked (row.Move (at (codes "a")) (at (codes "d")) false)
    ≡ Makes (one_edit (pos 5) (codes "you") (edits.Move (at (codes "a")) (at (codes "d")))) (λ ref. 6)
    (message_told (codes "moved generic-local/a to generic-local/d"))
moved = refl

into_itself : asked (row.Copy (at (codes "a")) (at (codes "a/e")) false) ≡ Refused (refusal.IntoItself (at (codes "a/e")))
into_itself = refl

no_room_to_copy : asked_when_full (row.Copy (at (codes "a")) (at (codes "d")) false) ≡ Refused (refusal.Full Items)
no_room_to_copy = refl

only_tried : asked_when_full (row.Copy (at (codes "a")) (at (codes "d")) true)
    ≡ Tells (message_told (codes "copied generic-local/a to generic-local/d"))
only_tried = refl

only_tried_and_refused : asked_when_full (row.Copy (at (codes "a")) (at (codes "a.txt")) true) ≡ Refused (refusal.TargetTaken (at (codes "a.txt")))
only_tried_and_refused = refl

ping : asked row.Ping ≡ Tells (plain_text (codes "OK"))
ping = refl

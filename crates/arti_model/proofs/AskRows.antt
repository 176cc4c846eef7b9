-- What requests ask, computed on some of them.
use Rattle.std.specs.Prelude.{Result, Ok, Err, ◌≡◌, refl, codes, List, ℕ, [], ◌∷◌, None, true, false}
use Rattle.std.specs.Str.{is_utf8, chars}
use lib.Utf8.{encode}
use Rattle.percent_encoding.specs.Percent.{percent_decode}
use Rattle.arti_rows.specs.Key.{key_of}
use Rattle.arti_rows.specs.declared.refusal.Refusal.{Refusal}
use Rattle.arti_rows.specs.declared.refusal.Refusal.TheVariants as refusal
use Rattle.arti_model.specs.Asks.{asked}
use Rattle.arti_model.specs.declared.asks.Ask.{Ask}
use Rattle.arti_model.specs.declared.asks.AskRow.{AskRow}
use Rattle.arti_model.specs.declared.asks.AskRow.TheVariants as row
use Rattle.arti_model.specs.Requests.{FieldText}

-- the answer to a head of that method and target
abbrev of_head : List ℕ → List ℕ → List FieldText → Result Ask Refusal
of_head method target fields = asked (record { method = method; target = target; fields = fields; last = false })

abbrev by_nobody : AskRow → Result Ask Refusal
by_nobody row = Ok (record { user = codes "anonymous"; row = row })

ping : of_head (codes "GET") (codes "/artifactory/%61pi/system/ping;x?y") [] ≡ by_nobody row.Ping
unfolding asked is_utf8 chars percent_decode encode
ping = refl

plus : of_head (codes "GET") (codes "/r/a+b%2bc%20d%2/") [] ≡ by_nobody (row.Fetch (key_of (codes "r") (codes "a+b+c d%2")))
unfolding asked is_utf8 chars percent_decode encode
plus = refl

folder : of_head (codes "PUT") (codes "/r/a/b/") ((codes "x-arti-user", codes "me") ∷ []) ≡ Ok (record { user = codes "me"; row = row.Folder (key_of (codes "r") (codes "a/b")) })
unfolding asked is_utf8 chars percent_decode encode
folder = refl

deploy : of_head (codes "PUT") (codes "/r/a;k=v%3B?q;x") ((codes "X-Checksum-Deploy", codes "true") ∷ []) ≡ Err refusal.ChecksumMissing
unfolding asked is_utf8 chars percent_decode encode
deploy = refl

bad_header : of_head (codes "PUT") (codes "/r/a%2Fb") ((codes "x-checksum-sha1", codes "0") ∷ []) ≡ Err (refusal.BadHeader (codes "X-Checksum-Sha1"))
unfolding asked is_utf8 chars percent_decode encode
bad_header = refl

escaped_slash : of_head (codes "PUT") (codes "/r/a%2Fb") [] ≡ Err refusal.BadName
unfolding asked is_utf8 chars percent_decode encode
escaped_slash = refl

bad_target : of_head (codes "GET") (codes "/nothing?x=%ff") [] ≡ Err refusal.BadTarget
unfolding asked is_utf8 chars percent_decode encode
bad_target = refl

no_route : of_head (codes "GET") (codes "/api/storage/r") ((codes "X-Arti-User", []) ∷ []) ≡ Err refusal.NoRoute
unfolding asked is_utf8 chars percent_decode encode
no_route = refl

no_method : of_head (codes "POST") (codes "/r/a") ((codes "X-Arti-User", []) ∷ []) ≡ Err refusal.NoMethod
unfolding asked is_utf8 chars percent_decode encode
no_method = refl

bad_user : of_head (codes "POST") (codes "/api/copy/r/a") ((codes "X-Arti-User", []) ∷ []) ≡ Err refusal.BadUser
unfolding asked is_utf8 chars percent_decode encode
bad_user = refl

missing : of_head (codes "POST") (codes "/api/copy/r/a?dry=2") [] ≡ Err (refusal.Missing (codes "to"))
unfolding asked is_utf8 chars percent_decode encode
missing = refl

bad_query : of_head (codes "POST") (codes "/api/copy/r/a:b?to=/r&dry=2") [] ≡ Err (refusal.BadQuery (codes "dry"))
unfolding asked is_utf8 chars percent_decode encode
bad_query = refl

no_place : of_head (codes "POST") (codes "/api/copy/r/a:b?to=/r") [] ≡ Err (refusal.BadQuery (codes "to"))
unfolding asked is_utf8 chars percent_decode encode
no_place = refl

copy : of_head (codes "POST") (codes "/api/copy/r/a/b?to=%2Fs%2Fc/&dry=0") [] ≡ by_nobody (row.Copy (key_of (codes "r") (codes "a/b")) (key_of (codes "s") (codes "c/b")) false)
unfolding asked is_utf8 chars percent_decode encode
copy = refl

properties : of_head (codes "GET") (codes "/api/storage/r/a?properties") [] ≡ by_nobody (row.GetProps (key_of (codes "r") (codes "a")) None)
unfolding asked is_utf8 chars percent_decode encode
properties = refl

builds : of_head (codes "DELETE") (codes "/api/build/a%2Fb?buildNumbers=1,2&artifacts=1") [] ≡ by_nobody (row.DropBuilds (codes "a/b") (codes "1" ∷ codes "2" ∷ []) true false)
unfolding asked is_utf8 chars percent_decode encode
builds = refl

-- How a fault, or want of memory, ends a stream.
use Rattle.std.proofs.Common.{◌≡◌, ℕ, ◌<◌, ℤ, List, [], ◌++◌, length, sym, ap, ◌∙◌, subst, append_assoc, refl}
use Rattle.std.specs.Prelude.{Result, Ok, Err, IfErr, OnOk}
use Rattle.std.proofs.lemmas.List.{append-nil}
use Rattle.arti_rows.specs.declared.limits.Limits.{Limits}
use Rattle.arti_model.specs.declared.Why.{Why}
use Rattle.arti_model.specs.Requests.{Request, Whole, Begins, AtBad, Head}
use Rattle.arti_model.specs.Stock.{Stock}
use Rattle.arti_model.specs.Run.{first_of, IsReply, error_reply}
use Rattle.arti_model.specs.Step.{step}
use Rattle.arti_service.specs.declared.answering.Stop.{Stop}
use Rattle.arti_service.specs.declared.answering.Stop.TheVariants as stop
use Rattle.arti_service.specs.declared.conversation.Ending.{Ending}
use Rattle.arti_service.specs.declared.conversation.Ending.TheVariants as ending
use Rattle.arti_service.specs.Cuts.{Standing, AnswersFirst, AnswersSome, none, more, NextReply, to_request, to_bad, TellsNext, TellsSomeOfOne, StopsSo, Stops, StopsInOne, StopsBad, StoppedIn, StopsTelling, EndsFor}
use Rattle.arti_service.specs.Asks.{Tells}

-- in a request whose head has come
some_of_one : (limits : Limits) (most : ℕ) (moments : List ℤ) (s : Stock) (input : List ℕ) (head : Request) (n : ℕ) (rest told told' : List ℕ) (after : Stock)
    → 0 < most → Begins limits.content input (Head head n rest) → TellsSomeOfOne limits moments s head n rest told told' after
    → TellsNext limits (record { most = most; moments = moments; stock = s; input = input }) told told' after
some_of_one limits most moments s input head n rest told told' after some begins one =
    let a : Standing = record { most = most; moments = moments; stock = s; input = input } in
    let q : Whole = record { head = head; body = one.body } in
    let at_body : Begins limits.content input (Head head (length one.body) (one.body ++ one.rest)) =
    subst (λ (l : List ℕ). Begins limits.content input (Head head (length one.body) l)) one.input_is (subst (λ (k : ℕ). Begins limits.content input (Head head k rest)) (sym one.long) begins) in
    (one.stopped.0, subst (NextReply limits a one.stopped.0) (sym one.leaves) (to_request q one.rest one.stopped.0 some at_body one.stopped.1), one.stopped.2)

pub in_one : (limits : Limits) (most : ℕ) (moments : List ℤ) (s : Stock) (input : List ℕ) (head : Request) (n : ℕ) (rest told told' : List ℕ) (after : Stock) (e : Ending)
    → 0 < most → Begins limits.content input (Head head n rest) → StopsInOne e limits moments s head n rest told told' after
    → StopsSo e limits (record { most = most; moments = moments; stock = s; input = input }) told told' after
in_one limits most moments s input head n rest told told' after ending.End some begins one = tt
in_one limits most moments s input head n rest told told' after ending.Cut some begins one = tt
in_one limits most moments s input head n rest told told' after (ending.Bad why) some begins one = tt
in_one limits most moments s input head n rest told told' after ending.TooMany some begins one = tt
in_one limits most moments s input head n rest told told' after ending.Disk some begins one = (one.0, some_of_one limits most moments s input head n rest told told' one.0 some begins one.1)
in_one limits most moments s input head n rest told told' after ending.Tell some begins one = some_of_one limits most moments s input head n rest told told' after some begins one
in_one limits most moments s input head n rest told told' after ending.Source some begins one = one
in_one limits most moments s input head n rest told told' after ending.Memory some begins one = one

-- in the answer to a request that was read whole
pub in_answer : (limits : Limits) (moments : List ℤ) (moment : ℤ) (s : Stock) (head : Request) (n : ℕ) (input bytes body rest told told' : List ℕ) (after : Stock) (why : Stop) (e : Ending)
    → bytes ≡ body → moment ≡ first_of moments → length body ≡ n → input ≡ body ++ rest
    → EndsFor why e → StoppedIn why (IsReply limits s (record { head = head; body = bytes }) moment) told told'
    → (why ≡ stop.Tell → after ≡ (step limits s (record { head = head; body = bytes }) moment).stock) → StopsInOne e limits moments s head n input told told' after
in_answer limits moments moment s head n input bytes body rest told told' after why e same now long is ends stopped stock =
    by why ends (subst (λ (q : Whole). StoppedIn why (IsReply limits s q (first_of moments)) told told') whole (subst (λ (m : ℤ). StoppedIn why (IsReply limits s (record { head = head; body = bytes }) m) told told') now stopped))
    (subst (λ (q : Whole). why ≡ stop.Tell → after ≡ (step limits s q (first_of moments)).stock) whole (subst (λ (m : ℤ). why ≡ stop.Tell → after ≡ (step limits s (record { head = head; body = bytes }) m).stock) now stock))
  where
    q : Whole
    q = record { head = head; body = body }

    whole : record { head = head; body = bytes } ≡ q
    whole = λ i. record { head = head; body = same i }

    by : (w : Stop) → EndsFor w e → StoppedIn w (IsReply limits s q (first_of moments)) told told' → (w ≡ stop.Tell → after ≡ (step limits s q (first_of moments)).stock) → StopsInOne e limits moments s head n input told told' after
    by stop.Disk is_so at leaves = subst (λ (x : Ending). StopsInOne x limits moments s head n input told told' after) (sym is_so) ((step limits s q (first_of moments)).stock, record { body = body; rest = rest; long = long; input_is = is; stopped = at; leaves = refl })
    by stop.Tell is_so at leaves = subst (λ (x : Ending). StopsInOne x limits moments s head n input told told' after) (sym is_so) (record { body = body; rest = rest; long = long; input_is = is; stopped = at; leaves = leaves refl })
    by stop.Memory is_so at leaves = subst (λ (x : Ending). StopsInOne x limits moments s head n input told told' after) (sym is_so) at

-- in the reply to bytes that are no request
pub in_bad : (limits : Limits) (a : Standing) (why : Why) (told told' : List ℕ) (after : Stock) (e : Ending)
    → 0 < a.most → Begins limits.content a.input (AtBad why) → after ≡ a.stock → StopsBad e why told told' → StopsSo e limits a told told' after
in_bad limits a why told told' after ending.End some begins same s = tt
in_bad limits a why told told' after ending.Cut some begins same s = tt
in_bad limits a why told told' after (ending.Bad w) some begins same s = tt
in_bad limits a why told told' after ending.TooMany some begins same s = tt
in_bad limits a why told told' after ending.Disk some begins same s = absurd s
in_bad limits a why told told' after ending.Tell some begins same s = (error_reply why, subst (NextReply limits a (error_reply why)) (sym same) (to_bad why some begins), s)
in_bad limits a why told told' after ending.Source some begins same s = absurd s
in_bad limits a why told told' after ending.Memory some begins same s = s

-- behind the requests so far
pub behind : (e : Ending) (limits : Limits) (a b : Standing) (bytes told0 told told' : List ℕ) (after : Stock)
    → AnswersSome limits a bytes b → told ≡ told0 ++ bytes → StopsSo e limits b told told' after → Stops e limits a told0 told' after
behind e limits a b bytes told0 told told' after some so_far stops =
    (b, bytes, some, subst (λ (l : List ℕ). StopsSo e limits b l told' after) so_far stops)

-- before the first request
pub at_once : (limits : Limits) (a : Standing) (told : List ℕ) (after : Stock) → Stops ending.Memory limits a told told after
at_once limits a told after = (a, [], none, sym (append-nil told))

-- so many requests were answered, and this was told
abbrev pub SoFar : Limits → Standing → List ℕ → Standing → List ℕ → Type 0
SoFar limits a told0 b told = (bytes : List ℕ) × AnswersSome limits a bytes b × (told ≡ told0 ++ bytes)

-- none so far, and nothing is ahead
pub none_so_far : (limits : Limits) (most : ℕ) (moments : List ℤ) (s : Stock) (ahead left told : List ℕ) → ahead ≡ []
    → SoFar limits (record { most = most; moments = moments; stock = s; input = left }) told (record { most = most; moments = moments; stock = s; input = ahead ++ left }) told
none_so_far limits most moments s ahead left told nothing =
    ([], subst (λ (l : List ℕ). AnswersSome limits (record { most = most; moments = moments; stock = s; input = left }) [] (record { most = most; moments = moments; stock = s; input = l ++ left })) (sym nothing) none, sym (append-nil told))

-- one more
pub one_more : (limits : Limits) (a b c : Standing) (told0 told told' : List ℕ) → SoFar limits a told0 b told
    → (reply : List ℕ) × AnswersFirst limits b reply c × (told' ≡ told ++ reply) → SoFar limits a told0 c told'
one_more limits a b c told0 told told' so_far one =
    (so_far.0 ++ one.0, more so_far.1 one.1, one.2 ∙ ap (λ (l : List ℕ). l ++ one.0) so_far.2 ∙ append_assoc told0 so_far.0 one.0)

-- a reply of which some first bytes were told
pub stops_telling : (result : Result (Unit {0}) Stop) (IsOne : List ℕ → Type 0) (reply told told' : List ℕ) → IsOne reply
    → IfErr result (λ s. StopsTelling s reply told told') → IfErr result (λ s. StoppedIn s IsOne told told')
stops_telling (Ok x) IsOne reply told told' one stops = tt
stops_telling (Err stop.Disk) IsOne reply told told' one stops = absurd stops
stops_telling (Err stop.Tell) IsOne reply told told' one stops = (reply, one, stops)
stops_telling (Err stop.Memory) IsOne reply told told' one stops = stops

-- a reply that is one of more
pub stopped_more : (result : Result (Unit {0}) Stop) (P Q : List ℕ → Type 0) (told told' : List ℕ) → ((reply : List ℕ) → P reply → Q reply)
    → IfErr result (λ s. StoppedIn s P told told') → IfErr result (λ s. StoppedIn s Q told told')
stopped_more (Ok x) P Q told told' wider stops = tt
stopped_more (Err stop.Disk) P Q told told' wider stops = (stops.0, wider stops.0 stops.1, stops.2)
stopped_more (Err stop.Tell) P Q told told' wider stops = (stops.0, wider stops.0 stops.1, stops.2)
stopped_more (Err stop.Memory) P Q told told' wider stops = stops

pub tells_in : (result : Result (Unit {0}) Stop) (IsOne : List ℕ → Type 0) (reply told told' : List ℕ) → IsOne reply → OnOk result (told' ≡ told ++ reply) → OnOk result (Tells IsOne told told')
tells_in (Ok x) IsOne reply told told' one is = (reply, one, is)
tells_in (Err s) IsOne reply told told' one is = tt

pub tells_more : (result : Result (Unit {0}) Stop) (P Q : List ℕ → Type 0) (told told' : List ℕ) → ((reply : List ℕ) → P reply → Q reply) → OnOk result (Tells P told told') → OnOk result (Tells Q told told')
tells_more (Ok x) P Q told told' wider tells = (tells.0, wider tells.0 tells.1, tells.2)
tells_more (Err s) P Q told told' wider tells = tt

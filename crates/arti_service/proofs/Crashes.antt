-- What a crash may leave of a conversation.
use Rattle.std.proofs.Common.{◌≡◌, ℕ, zero, suc, ◌+◌, ◌-◌, ◌<◌, ◌≤◌, ℤ, Bool, true, false, List, [], ◌∷◌, ◌++◌, length, take, drop, refl, sym, ap, ◌∙◌, subst, append_assoc, arith}
use Rattle.std.specs.Prelude.{MatchBool, Option, Some, None}
use Rattle.arti_rows.specs.declared.limits.Limits.{Limits}
use Rattle.arti_rows.specs.declared.edits.Change.{Change}
use Rattle.arti_ground.specs.State.{Bytes, State, Passes}
use Rattle.arti_ground.specs.Moments.{passes_map}
use Rattle.arti_model.specs.declared.Why.{Why}
use Rattle.arti_model.specs.Requests.{Request, Whole, Begins, Head}
use Rattle.arti_model.specs.Apply.{Holding}
use Rattle.arti_model.specs.Stock.{Stock}
use Rattle.arti_model.specs.Step.{step}
use Rattle.arti_model.specs.Run.{first_of, IsReply, error_reply, BeginsWith, count_of, accepted_by, HoldsAfter, at_first, behind, Acknowledges, nothing, some, whole, bad, Recovers}
use Rattle.arti_store.specs.Store.{View, HoldsStore, shows}
use Rattle.arti_service.specs.Cuts.{Standing, AnswersFirst, AnswersSome, none, more}
use Rattle.arti_service.specs.Stocks.{IsReady}
use Rattle.arti_service.specs.Moments.{AtMoment, Telling, During, waits, tells, DuringOne}
use Rattle.arti_service.specs.CrashLaws.{image_stands, at_start}
use Rattle.arti_service.proofs.Acting.{moments_map}
use Rattle.arti_service.proofs.Talks.{no_requests, goes_by}

count_small : (o : Option Change) → count_of o ≤ 1
count_small None = omega arith
count_small (Some c) = omega arith

no_more : (b : Bool) (content most : ℕ) (after : List ℕ) → MatchBool b (no_requests ≡ []) (BeginsWith content most after [])
no_more true content most after = refl
no_more false content most after = tt

module _ (limits : Limits) (most : ℕ) (moments : List ℤ) (s : Stock) (input : List ℕ) (q : Whole) (after : List ℕ) (some_left : 0 < most)
    (begins : Begins limits.content input (Head q.head (length q.body) (q.body ++ after))) where
  abbrev behind_it : Holding
  behind_it = (step limits s q (first_of moments)).stock.holding

  abbrev n_it : ℕ
  n_it = accepted_by limits moments s q

  begins_one : BeginsWith limits.content most input (q ∷ [])
  begins_one = (after, some_left, begins, no_more q.head.last limits.content (most - 1) after)

  held : HoldsAfter limits moments s (q ∷ []) (n_it + 0) behind_it
  held = behind at_first

  none_told : Recovers limits most moments s input [] behind_it
  none_told = record {
    requests = q ∷ [];
    begins = begins_one;
    acknowledged = 0;
    tells = nothing;
    accepted = n_it + 0;
    holds = held;
    all = omega arith;
    one_more = omega (arith, count_small (step limits s q (first_of moments)).change);
  }

  some_told : (n : ℕ) (reply : List ℕ) → IsReply limits s q (first_of moments) reply → Recovers limits most moments s input (take n reply) behind_it
  some_told zero reply one = none_told
  some_told (suc n) reply one = record {
    requests = q ∷ [];
    begins = begins_one;
    acknowledged = n_it;
    tells = some {n = suc n} one (omega arith);
    accepted = n_it + 0;
    holds = held;
    all = omega arith;
    one_more = omega arith;
  }

  pub during_it : (told : List ℕ) (h : Holding) → During (IsReply limits s q (first_of moments)) s.holding behind_it told h → Recovers limits most moments s input told h
  during_it told h waits = at_start limits most moments s input
  during_it told h (tells {reply} n one) = some_told n reply one

-- while the request of a head is read and answered
pub during_one : (limits : Limits) (most : ℕ) (moments : List ℤ) (s : Stock) (input : List ℕ) (head : Request) (n : ℕ) (rest : List ℕ) → 0 < most → Begins limits.content input (Head head n rest)
    → (told : List ℕ) (h : Holding) → DuringOne limits moments s head n rest told h → Recovers limits most moments s input told h
during_one limits most moments s input head n rest some_left begins told h d =
    let q : Whole = record { head = head; body = d.body } in
    let at_body : Begins limits.content input (Head head (length d.body) (d.body ++ d.rest)) =
    subst (λ (l : List ℕ). Begins limits.content input (Head head (length d.body) l)) d.input_is (subst (λ (k : ℕ). Begins limits.content input (Head head k rest)) (sym d.long) begins) in
    during_it limits most moments s input q d.rest some_left at_body told h d.during

-- the body of the request is known
in_whole : (limits : Limits) (moments : List ℤ) (s : Stock) (head : Request) (n : ℕ) (input body rest : List ℕ) → length body ≡ n → input ≡ body ++ rest
    → (told : List ℕ) (h : Holding) → During (IsReply limits s (record { head = head; body = body }) (first_of moments)) s.holding (step limits s (record { head = head; body = body }) (first_of moments)).stock.holding told h
    → DuringOne limits moments s head n input told h
in_whole limits moments s head n input body rest long is told h d = record { body = body; rest = rest; long = long; input_is = is; during = d }

-- moments of the answer to it
pub whole_moments : (limits : Limits) (line : ℕ) (moments : List ℤ) (moment : ℤ) (a b : State) (s : Stock) (head : Request) (n : ℕ) (input bytes body rest : List ℕ)
    → bytes ≡ body → moment ≡ first_of moments → length body ≡ n → input ≡ body ++ rest
    → Passes a b (AtMoment limits line a.told (During (IsReply limits s (record { head = head; body = bytes }) moment) s.holding (step limits s (record { head = head; body = bytes }) moment).stock.holding))
    → Passes a b (AtMoment limits line a.told (DuringOne limits moments s head n input))
whole_moments limits line moments moment a b s head n input bytes body rest same now long is time =
    moments_map limits line a.told a b _ _ (in_whole limits moments s head n input body rest long is)
    (subst (λ (m : ℤ). Passes a b (AtMoment limits line a.told (During (IsReply limits s (record { head = head; body = body }) m) s.holding (step limits s (record { head = head; body = body }) m).stock.holding))) now
    (subst (λ (l : List ℕ). Passes a b (AtMoment limits line a.told (During (IsReply limits s (record { head = head; body = l }) moment) s.holding (step limits s (record { head = head; body = l }) moment).stock.holding))) same time))

-- while it is told that the bytes are no request
bad_moment : (limits : Limits) (most : ℕ) (moments : List ℤ) (line : ℕ) (s : State) (v : View) (input : List ℕ) (why : Why) → IsReady limits v → HoldsStore s v
    → (c w : Bytes) → Telling s line (error_reply why) c w → AtMoment limits line s.told (Recovers limits most moments (shows s v) input) c w
bad_moment limits most moments line s v input why ready holds c w here = record {
  told = take here.n (error_reply why);
  told_is = here.told;
  holding = (shows s v).holding;
  used = v.used;
  stands = image_stands limits s v ready holds c here.was;
  fits = record {
    requests = [];
    begins = tt;
    acknowledged = 0;
    tells = bad why here.n;
    accepted = 0;
    holds = at_first;
    all = omega arith;
    one_more = omega arith;
  };
}

pub bad_moments : (limits : Limits) (most : ℕ) (moments : List ℤ) (line : ℕ) (s s' : State) (v : View) (input : List ℕ) (why : Why) → IsReady limits v → HoldsStore s v
    → Passes s s' (Telling s line (error_reply why)) → Passes s s' (AtMoment limits line s.told (Recovers limits most moments (shows s v) input))
bad_moments limits most moments line s s' v input why ready holds time = passes_map s s' _ _ (bad_moment limits most moments line s v input why ready holds) time

-- behind one request that was answered whole
behind_first : (limits : Limits) (a b : Standing) (reply told : List ℕ) (h : Holding) → AnswersFirst limits a reply b
    → Recovers limits b.most b.moments b.stock b.input told h → Recovers limits a.most a.moments a.stock a.input (reply ++ told) h
behind_first limits a b reply told h one r =
    let q = one.request in
    let n = accepted_by limits a.moments a.stock q in
    record {
      requests = q ∷ r.requests;
      begins = (
        b.input,
        one.some,
        one.begins,
        goes_by q.head.last (r.requests ≡ []) (BeginsWith limits.content (a.most - 1) b.input r.requests) one.goes_on
            (subst (λ (m : ℕ). BeginsWith limits.content m b.input r.requests) one.most r.begins),
      );
      acknowledged = n + r.acknowledged;
      tells = whole one.replies
          (subst (λ (x : Stock). Acknowledges limits (drop 1 a.moments) x r.requests told r.acknowledged) one.stock
          (subst (λ (m : List ℤ). Acknowledges limits m b.stock r.requests told r.acknowledged) one.moments r.tells));
      accepted = n + r.accepted;
      holds = behind
          (subst (λ (x : Stock). HoldsAfter limits (drop 1 a.moments) x r.requests r.accepted h) one.stock
          (subst (λ (m : List ℤ). HoldsAfter limits m b.stock r.requests r.accepted h) one.moments r.holds));
      all = omega (arith, r.all);
      one_more = omega (arith, r.one_more);
    }

-- behind all that were
behind_some : (limits : Limits) (a b : Standing) (bytes told : List ℕ) (h : Holding) → AnswersSome limits a bytes b
    → Recovers limits b.most b.moments b.stock b.input told h → Recovers limits a.most a.moments a.stock a.input (bytes ++ told) h
behind_some limits a b bytes told h none r = r
behind_some limits a b bytes told h (more {b = m} {bytes = front} {reply = reply} so_far one) r =
    subst (λ (l : List ℕ). Recovers limits a.most a.moments a.stock a.input l h) (sym (append_assoc front reply told))
    (behind_some limits a m front (reply ++ told) h so_far (behind_first limits m b reply told h one r))

later_moment : (limits : Limits) (line : ℕ) (a b : Standing) (start now : Bytes) (bytes : List ℕ) → AnswersSome limits a bytes b → now line ≡ start line ++ bytes
    → (c w : Bytes) → AtMoment limits line now (Recovers limits b.most b.moments b.stock b.input) c w → AtMoment limits line start (Recovers limits a.most a.moments a.stock a.input) c w
later_moment limits line a b start now bytes so_far told_so c w m = record {
  told = bytes ++ m.told;
  told_is = m.told_is ∙ ap (λ (l : List ℕ). l ++ m.told) told_so ∙ append_assoc (start line) bytes m.told;
  holding = m.holding;
  used = m.used;
  stands = m.stands;
  fits = behind_some limits a b bytes m.told m.holding so_far m.fits;
}

-- moments of a turn, seen from the conversation's start
pub later_moments : (limits : Limits) (line : ℕ) (a b : Standing) (start now : Bytes) (bytes : List ℕ) (s s' : State) → AnswersSome limits a bytes b → now line ≡ start line ++ bytes
    → Passes s s' (AtMoment limits line now (Recovers limits b.most b.moments b.stock b.input)) → Passes s s' (AtMoment limits line start (Recovers limits a.most a.moments a.stock a.input))
later_moments limits line a b start now bytes s s' so_far told_so time = passes_map s s' _ _ (later_moment limits line a b start now bytes so_far told_so) time

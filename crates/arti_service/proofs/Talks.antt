-- How the end of a stream, and one more request, are answered.
use Rattle.std.proofs.Common.{◌≡◌, inr, ℕ, ◌-◌, ◌<◌, ℤ, Bool, true, false, List, [], ◌∷◌, ◌++◌, length, drop, refl, sym, ap, ◌∙◌, subst, append_assoc}
use Rattle.std.specs.Prelude.{MatchBool}
use Rattle.std.proofs.lemmas.List.{append-nil}
use Rattle.std.proofs.lemmas.Bool.{false≢true}
use Rattle.arti_rows.specs.declared.limits.Limits.{Limits}
use Rattle.arti_model.specs.Requests.{Start, Request, Whole, Begins, AtEnd, AtBad, Head, EndsSo, RequestBytes}
use Rattle.arti_model.specs.Requests as model
use Rattle.arti_model.specs.declared.Why.{Why}
use Rattle.arti_model.specs.Stock.{Stock}
use Rattle.arti_model.specs.Run.{last_reply, error_reply}
use Rattle.arti_service.specs.declared.conversation.Ending.{Ending}
use Rattle.arti_service.specs.declared.conversation.Ending.TheVariants as ending
use Rattle.arti_service.specs.Talk.{IsAnswered, AtStreamEnd, Answers, TakesTurn, AnswersOne, CutsShort}

abbrev pub no_requests : List Whole
no_requests = []

ends_by : (b : Bool) (A : Type 0) → b ≡ true → MatchBool b ((no_requests ≡ []) × (model.End ≡ model.End)) A
ends_by true A e = (refl, refl)
ends_by false A e = absurd (false≢true e)

pub goes_by : (b : Bool) (A B : Type 0) → b ≡ false → B → MatchBool b A B
goes_by true A B e h = absurd (false≢true (sym e))
goes_by false A B e h = h

-- a fact of the ending that another one makes
pub at_stream_end : (P Q : model.Ending → Type 0) → ((e : model.Ending) → P e → Q e) → (e : Ending) → AtStreamEnd e P → AtStreamEnd e Q
at_stream_end P Q f ending.End p = f model.End p
at_stream_end P Q f ending.Cut p = f model.Cut p
at_stream_end P Q f (ending.Bad why) p = f (model.Bad why) p
at_stream_end P Q f ending.TooMany p = f model.TooMany p
at_stream_end P Q f ending.Disk p = p
at_stream_end P Q f ending.Tell p = p
at_stream_end P Q f ending.Source p = p
at_stream_end P Q f ending.Memory p = p

module _ (limits : Limits) (most : ℕ) (moments : List ℤ) (s : Stock) (input : List ℕ) where
  none : (e : model.Ending) → EndsSo limits.content most input e → IsAnswered limits most moments s input e (last_reply e) s
  none e ends = record { requests = []; reads = ends; answers = refl; leaves = refl }

  pub ends_untold : (e : model.Ending) (told told' : List ℕ) (s' : Stock) → last_reply e ≡ [] → EndsSo limits.content most input e → s' ≡ s → told' ≡ told → Answers limits most moments s input told told' s' e
  ends_untold e told told' s' quiet ends same same_told =
      let bytes = last_reply e in
      let silent : told' ≡ told ++ bytes = same_told ∙ sym (append-nil told) ∙ ap (λ (l : List ℕ). told ++ l) (sym quiet) in
      (bytes, subst (λ (x : Stock). IsAnswered limits most moments s input e bytes x) (sym same) (none e ends), silent)

  pub ends_bad : (why : Why) (e : Ending) (told told' : List ℕ) (s' : Stock) → 0 < most → Begins limits.content input (AtBad why)
      → AtStreamEnd e (λ x. (x ≡ model.Bad why) × (told' ≡ told ++ error_reply why)) → s' ≡ s → AtStreamEnd e (Answers limits most moments s input told told' s')
  ends_bad why e told told' s' some begins tells same =
      at_stream_end (λ x. (x ≡ model.Bad why) × (told' ≡ told ++ error_reply why)) (Answers limits most moments s input told told' s') (λ x is. subst (Answers limits most moments s input told told' s') (sym is.0)
      (error_reply why, subst (λ (y : Stock). IsAnswered limits most moments s input (model.Bad why) (error_reply why) y) (sym same) (none (model.Bad why) (some, begins)), is.1)) e tells

  module _ (head : Request) (n : ℕ) (rest : List ℕ) (some : 0 < most) (begins : Begins limits.content input (Head head n rest)) where
    pub ends_in_body : (told told' : List ℕ) (s' : Stock) → CutsShort n rest s s' told told' → Answers limits most moments s input told told' s' model.Cut
    ends_in_body told told' s' short = ends_untold model.Cut told told' s' refl (some, inr (head, n, rest, begins, short.short)) short.same_store short.same_told

    module _ (moments' : List ℤ) (s' : Stock) (input' told told' : List ℕ) (one : AnswersOne limits moments moments' s s' head n rest input' told told') where
      abbrev q : Whole
      q = record { head = head; body = one.body }

      abbrev reply : List ℕ
      reply = one.reply

      at_body : Begins limits.content input (Head head (length one.body) (one.body ++ input'))
      at_body = subst (λ (l : List ℕ). Begins limits.content input (Head head (length one.body) l)) one.input_is (subst (λ (k : ℕ). Begins limits.content input (Head head k rest)) (sym one.long) begins)

      pub ends_at_last : head.last ≡ true → Answers limits most moments s input told told' s' model.End
      ends_at_last last = (
        reply ++ [],
        record {
          requests = q ∷ [];
          reads = (input', some, at_body, ends_by head.last (RequestBytes limits.content (most - 1) input' [] model.End) last);
          answers = (reply, [], refl, one.replies, refl);
          leaves = one.store_is;
        },
        one.told_is ∙ ap (λ (l : List ℕ). told ++ l) (sym (append-nil reply)),
      )

      pub turns : head.last ≡ false → TakesTurn limits most moments moments' s s' input input' told told'
      turns last = record {
        some = some;
        one = (
          reply,
          record {
            request = q;
            some = some;
            begins = at_body;
            goes_on = last;
            replies = one.replies;
            most = refl;
            moments = one.clock_is;
            stock = one.store_is;
          },
          one.told_is,
        );
        goes_on = λ e bytes after rest_of.
            let later = subst (λ (x : Stock). IsAnswered limits (most - 1) (drop 1 moments) x input' e bytes after) one.store_is
            (subst (λ (m : List ℤ). IsAnswered limits (most - 1) m s' input' e bytes after) one.clock_is rest_of) in (
              reply ++ bytes,
              record {
                requests = q ∷ later.requests;
                reads = (input', some, at_body, goes_by head.last ((later.requests ≡ []) × (e ≡ model.End)) (RequestBytes limits.content (most - 1) input' later.requests e) last later.reads);
                answers = (reply, bytes, refl, one.replies, later.answers);
                leaves = later.leaves;
              },
              ap (λ (l : List ℕ). l ++ bytes) one.told_is ∙ append_assoc told reply bytes,
            );
      }

-- the stream has more, though no more requests are answered
pub too_many : ((content : ℕ) (bytes : List ℕ) (s t : Start) → Begins content bytes s → Begins content bytes t → s ≡ t)
    → (limits : Limits) (most : ℕ) (moments : List ℤ) (s : Stock) (input told : List ℕ) (start : Start) → most ≡ 0 → Begins limits.content input start → (start ≡ AtEnd → ⊥) → Answers limits most moments s input told told s model.TooMany
too_many once limits most moments s input told start zero begins other =
    ends_untold limits most moments s input model.TooMany told told s refl (zero, λ at_end. other (once limits.content input start AtEnd begins at_end)) refl refl

pub goes_through : (limits : Limits) (most : ℕ) (moments : List ℤ) (s : Stock) (input told told' : List ℕ) (most0 : ℕ) (moments0 : List ℤ) (s0 s' : Stock) (input0 told0 : List ℕ) (e : Ending)
    → ((x : model.Ending) (bytes : List ℕ) (after : Stock) → IsAnswered limits most moments s input x bytes after → (all : List ℕ) × IsAnswered limits most0 moments0 s0 input0 x all after × (told ++ bytes ≡ told0 ++ all))
    → AtStreamEnd e (Answers limits most moments s input told told' s') → AtStreamEnd e (Answers limits most0 moments0 s0 input0 told0 told' s')
goes_through limits most moments s input told told' most0 moments0 s0 s' input0 told0 e talk at =
    at_stream_end (Answers limits most moments s input told told' s') (Answers limits most0 moments0 s0 input0 told0 told' s') (λ x a.
    let all = talk x a.0 s' a.1 in (all.0, all.1, a.2 ∙ all.2)) e at

-- the conversation so far, before the first request: nothing is ahead
pub starts_so : (limits : Limits) (most : ℕ) (moments : List ℤ) (s : Stock) (ahead left told : List ℕ) (e : model.Ending) (bytes : List ℕ) (after : Stock) → ahead ≡ []
    → IsAnswered limits most moments s (ahead ++ left) e bytes after → (all : List ℕ) × IsAnswered limits most moments s left e all after × (told ++ bytes ≡ told ++ all)
starts_so limits most moments s ahead left told e bytes after none a =
    (bytes, subst (λ (l : List ℕ). IsAnswered limits most moments s (l ++ left) e bytes after) none a, refl)

-- the conversation so far, one request later
pub goes_so : (limits : Limits) (most : ℕ) (moments moments' : List ℤ) (s s' : Stock) (input input' told told' : List ℕ) (most0 : ℕ) (moments0 : List ℤ) (s0 : Stock) (input0 told0 : List ℕ)
    → TakesTurn limits most moments moments' s s' input input' told told'
    → ((x : model.Ending) (bytes : List ℕ) (after : Stock) → IsAnswered limits most moments s input x bytes after → (all : List ℕ) × IsAnswered limits most0 moments0 s0 input0 x all after × (told ++ bytes ≡ told0 ++ all))
    → (e : model.Ending) (bytes : List ℕ) (after : Stock) → IsAnswered limits (most - 1) moments' s' input' e bytes after → (all : List ℕ) × IsAnswered limits most0 moments0 s0 input0 e all after × (told' ++ bytes ≡ told0 ++ all)
goes_so limits most moments moments' s s' input input' told told' most0 moments0 s0 input0 told0 turn talk e bytes after a =
    let more = turn.goes_on e bytes after a in
    let all = talk e more.0 after more.1 in
    (all.0, all.1, more.2 ∙ all.2)

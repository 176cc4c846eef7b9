-- What is ahead after the line ends, and after more reads, decides what the input begins with.
use Rattle.std.proofs.Common.{◌≡◌, ℕ, zero, suc, ◌<◌, ◌≤◌, ◌⊎◌, Bool, true, false, List, [], ◌∷◌, ◌++◌, length, take, refl, sym, ap, ◌∙◌, subst, arith}
use Rattle.std.specs.Prelude.{MatchBool}
use Rattle.arti_model.specs.Requests.{HeadOrNone, Start, AtBad, StartsAt, Begins, skip, is_line_byte}
use Rattle.arti_model.specs.declared.Why.TheVariants.{BadHead}
use Rattle.arti_wire.specs.Ahead.{with_more, Decides}
use Rattle.arti_wire.specs.Lines.{StartsSo}
use Rattle.arti_wire.specs.declared.lines.FrontByte.TheVariants.{Byte}
use Rattle.arti_wire.proofs.Fronts.{head_or_none_more}

at_byte : (content a : ℕ) (bytes : List ℕ) (start : Start) → is_line_byte a ≡ false → HeadOrNone content (a ∷ bytes) start → StartsAt content (a ∷ bytes) start
at_byte content a bytes start plain h =
    let P : Bool → Type 0 = λ line. MatchBool line (start ≡ AtBad BadHead) (HeadOrNone content (a ∷ bytes) start) in
    subst P (sym plain) h

starts_ahead : (content b : ℕ) (rest ahead left : List ℕ) (start : Start) → is_line_byte b ≡ false → take (length (b ∷ rest)) ahead ≡ b ∷ rest
    → Decides ahead left → HeadOrNone content ahead start → StartsAt content (ahead ++ left) (with_more start left)
starts_ahead content b rest [] left start plain front decides h = absurd (omega (arith, ap length front))
starts_ahead content b rest (a ∷ bytes) left start plain front decides h =
    let same : a ≡ b = cc in
    let plain' : is_line_byte a ≡ false = ap is_line_byte same ∙ plain in
    at_byte content a (bytes ++ left) (with_more start left) plain' (head_or_none_more content a bytes left start plain' decides h)

-- the input begins with what the bytes ahead begin with
pub begins_ahead : (content : ℕ) (input first ahead left left' : List ℕ) (start : Start) → StartsSo first Byte → first ++ left ≡ skip 1024 input
    → take (length first) ahead ≡ first → ahead ++ left' ≡ first ++ left → Decides ahead left' → HeadOrNone content ahead start
    → Begins content input (with_more start left')
begins_ahead content input first ahead left left' start starts skipped front same decides h =
    let front' : take (length (starts.0 ∷ starts.1)) ahead ≡ starts.0 ∷ starts.1 =
    ap (λ f. take (length f) ahead) (sym starts.2) ∙ front ∙ starts.2 in
    subst (λ bytes. StartsAt content bytes (with_more start left')) (same ∙ skipped) (starts_ahead content starts.0 starts.1 ahead left' start starts.3 front' decides h)

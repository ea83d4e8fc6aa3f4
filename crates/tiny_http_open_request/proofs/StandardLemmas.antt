-- What stands at a place by the standard.
use Rattle.std.proofs.Common.{◌≡◌, refl, sym, ◌∙◌, subst, ℕ, Bool, true, false, List, ◌++◌, length, drop, Ok, Err}
use Rattle.std.proofs.lemmas.Bool.{lt-ltb}
use Rattle.std.specs.Prelude.{nat_lt, ◌&&◌, if◌then◌else◌}
use Rattle.tiny_http_io.specs.declared.device.Stop.{Stop}
use Rattle.tiny_http_head.specs.Heads.{Message}
use Rattle.tiny_http_standard_head.specs.declared.validation.HeadSummary.{HeadSummary}
use Rattle.tiny_http_standard_head.specs.Validation.{Validates}
use Rattle.tiny_http_standard_head.specs.Heads.{is_begun, BeginsWithHead, ReadWhole, ReadBad, ReadTooMany, ReadOpen}
use Rattle.tiny_http_body.specs.declared.framing.TheConstants.{STANDARD_HEAD}
use Rattle.tiny_http_body.specs.declared.framing.Framing.{Framing}
use Rattle.tiny_http_body.specs.declared.framing.Form.{Form}
use Rattle.tiny_http_body.specs.declared.framing.Form.TheVariants.{Rest, Nothing, WithHead, Counted, Chunked}
use Rattle.tiny_http_open_request.specs.Pipeline.{by_the_standard, is_timed_out, is_cut_with_head, IsCutWithHead, body_length_or_0, standard_front, served_message, standard_framing, standard_cut, standard_open, standard_heads, StandardHeadAt, long_refusal, RequestTimeout, Silence, Refused, Heads}

-- a request's head by the standard
pub record IsStandardHeads (bytes : List ℕ) (m : Message) (f : Framing) (after : List ℕ) : Type 0 where
  pub message : Message
  pub summary : HeadSummary
  pub front : List ℕ
  pub begins : BeginsWithHead (standard_front bytes) message front
  pub validates : Validates message.version message.method message.headers (Ok summary)
  pub served : m ≡ served_message message
  pub framed : f ≡ standard_framing summary
  pub behind : after ≡ front ++ drop STANDARD_HEAD bytes
  pub uncut : IsCutWithHead f.form (body_length_or_0 f) after → ⊥

cut-no_heads : (b : Bool) (stop : Stop) (m : Message) (f : Framing) (after : List ℕ) → Heads m f after ≡ standard_cut b stop → ⊥
cut-no_heads b stop m f after e = by (b && is_timed_out stop) e
  where
    by : (t : Bool) → Heads m f after ≡ (if t then Refused RequestTimeout by_the_standard else Silence) → ⊥
    by true e = cc
    by false e = cc

open-no_heads : (behind : Bool) (bytes : List ℕ) (stop : Stop) (m : Message) (f : Framing) (after : List ℕ) → Heads m f after ≡ standard_open behind bytes stop → ⊥
open-no_heads behind bytes stop m f after e = by (nat_lt (length bytes) STANDARD_HEAD) e
  where
    by : (t : Bool) → Heads m f after ≡ (if t then standard_cut (is_begun bytes) stop else Refused (long_refusal behind) by_the_standard) → ⊥
    by true e = cut-no_heads (is_begun bytes) stop m f after e
    by false e = cc

cut-is : (form : Form) (n : ℕ) (after : List ℕ) → is_cut_with_head form n after ≡ false → IsCutWithHead form n after → ⊥
cut-is WithHead n after e lt = let no : true ≡ false = sym (lt-ltb (length after) n lt) ∙ e in cc
cut-is Nothing n after e h = h
cut-is Counted n after e h = h
cut-is Rest n after e h = h
cut-is Chunked n after e h = h

whole-parts : (bytes : List ℕ) (stop : Stop) (m : Message) (f : Framing) (after : List ℕ) (n : Message) (front : List ℕ) (s : HeadSummary) → BeginsWithHead (standard_front bytes) n front → Validates n.version n.method n.headers (Ok s)
    → Heads m f after ≡ standard_heads (served_message n) (standard_framing s) (front ++ drop STANDARD_HEAD bytes) stop → IsStandardHeads bytes m f after
whole-parts bytes stop m f after n front s begins validates e = by (is_cut_with_head g.form (body_length_or_0 g) behind) refl e
  where
    g : Framing
    g = standard_framing s

    behind : List ℕ
    behind = front ++ drop STANDARD_HEAD bytes

    by : (t : Bool) → is_cut_with_head g.form (body_length_or_0 g) behind ≡ t → Heads m f after ≡ (if t then standard_cut true stop else Heads (served_message n) g behind) → IsStandardHeads bytes m f after
    by true c e = absurd (cut-no_heads true stop m f after e)
    by false c e =
        let a : m ≡ served_message n = cc in
        let b : f ≡ g = cc in
        let d : after ≡ behind = cc in
        let no : IsCutWithHead f.form (body_length_or_0 f) after → ⊥ = subst (λ (x : Framing). IsCutWithHead x.form (body_length_or_0 x) after → ⊥) (sym b) (subst (λ (x : List ℕ). IsCutWithHead g.form (body_length_or_0 g) x → ⊥) (sym d) (cut-is g.form (body_length_or_0 g) behind c)) in
        record { message = n; summary = s; front = front; begins = begins; validates = validates; served = a; framed = b; behind = d; uncut = no }

pub standard-parts : (bytes : List ℕ) (stop : Stop) (m : Message) (f : Framing) (after : List ℕ) → StandardHeadAt bytes stop (Heads m f after) → IsStandardHeads bytes m f after
standard-parts bytes stop m f after (ReadBad, a, e) = cc
standard-parts bytes stop m f after (ReadTooMany, a, e) = cc
standard-parts bytes stop m f after (ReadOpen behind, a, e) = absurd (open-no_heads behind bytes stop m f after e)
standard-parts bytes stop m f after (ReadWhole n front (Err refusal), a, e) = cc
standard-parts bytes stop m f after (ReadWhole n front (Ok s), a, e) = whole-parts bytes stop m f after n front s a.0 a.1 e

use Rattle.std.proofs.Common.{◌≡◌, sym, subst, ◌∙◌}
use Rattle.httparse.specs.Grammar.{is_ows}
use Rattle.tiny_http_text.specs.Bytes.{AreAscii, Trims, trimmed}
use Rattle.tiny_http_text.proofs.BytesLemmas.{trims-is}
use Rattle.tiny_http_standard_head.proofs.LinesLemmas.{no-colon, field-parts}
use Rattle.tiny_http_standard_head.proofs.lines.split_field_line.Goals.{then-not-is_token-via-then-not-is_token, then-not-is_token-via-else-not-is_token+then-not-is_header_value, else-must_be_ascii-via-then-must_be_ascii+else-not-are_ascii, else-must_be_ascii-via-else-must_be_ascii}
use Rattle.tiny_http_standard_head.proofs.lines.split_field_line.Goals as goal
use Rattle.tiny_http_head.proofs.FirstByte.{contrary}

pub returns-in_default-clause-none : goal.returns-in_default-clause-none
returns-in_default-clause-none c = no-colon c.args.text.now c.in_default.ensures.none

pub returns-then-not-is_token-clause-none : goal.returns-then-not-is_token-clause-none
returns-then-not-is_token-clause-none c field value l =
    let a = c.in-Some.ensures.some in
    let parts = field-parts c.args.text.now c.in-Some.field.now c.in-Some.padded.now a.0 a.1 field value l in
    elim c.then-not-is_token.branch [
      | then-not-is_token-via-then-not-is_token w ↦ contrary c.is_token.result (c.is_token.ensures ∙ parts.0) w.if-not-is_token.true
      | then-not-is_token-via-else-not-is_token+then-not-is_header_value w ↦ contrary w.is_header_value.result (w.is_header_value.ensures ∙ parts.1) w.if-not-is_header_value.true
    ]

pub returns-then-not-are_ascii-clause-none : goal.returns-then-not-are_ascii-clause-none
returns-then-not-are_ascii-clause-none c field value l =
    let a = c.in-Some.ensures.some in
    let parts = field-parts c.args.text.now c.in-Some.field.now c.in-Some.padded.now a.0 a.1 field value l in
    let same : c.trim_space_and_tab-value.result.now ≡ trimmed is_ows c.in-Some.padded.now = c.trim_space_and_tab-value.ensures in
    let ascii = parts.2 (sym c.must_be_ascii.ensures ∙ c.if-must_be_ascii.true) in
    contrary c.are_ascii.result (c.are_ascii.ensures ∙ subst AreAscii (sym same) ascii) c.if-not-are_ascii.true

pub returns-clause-some : goal.returns-clause-some
returns-clause-some c =
    let a = c.in-Some.ensures.some in
    let padded = c.in-Some.padded.now in
    let same : c.trim_space_and_tab-value.result.now ≡ trimmed is_ows padded = c.trim_space_and_tab-value.ensures in
    record {
      padded = padded;
      joins = a.0;
      field_is = sym c.is_token.ensures ∙ c.if-not-is_token.false;
      bytes = sym c.is_header_value.ensures ∙ c.if-not-is_header_value.false;
      trims = subst (Trims is_ows padded) (sym same) (trims-is is_ows padded);
      ascii = λ validated. elim c.else-must_be_ascii.branch [
        | else-must_be_ascii-via-then-must_be_ascii+else-not-are_ascii w ↦ sym w.are_ascii.ensures ∙ w.if-not-are_ascii.false
        | else-must_be_ascii-via-else-must_be_ascii w ↦ contrary c.must_be_ascii.result (c.must_be_ascii.ensures ∙ validated) w.if-must_be_ascii.false
      ];
    }

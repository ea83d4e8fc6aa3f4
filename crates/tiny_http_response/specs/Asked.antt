-- The coding that a request asks for, as a relation (RFC 9110, sections 10.1.4 and 12.4.2; RFC 9112, section 7.4).
use Rattle.std.specs.Prelude.{◌≡◌, ◌≢◌, ℕ, ◌<◌, ◌≤◌, ◌⊎◌, IsTrue, List, [], ◌∷◌, ◌++◌, Option, Some, None, codes}
use Rattle.std.specs.List.{All}
use Rattle.tiny_http_head.specs.declared.common.Header.{Header}
use Rattle.tiny_http_head.specs.Common.{same_name}
use Rattle.tiny_http_text.specs.Qualities.{ListsQualities}
use Rattle.tiny_http_response.specs.declared.coding.Coding.{Coding}
use Rattle.tiny_http_response.specs.Coding.{coding_named}

-- An element of the value of a TE header: a name and its quality, in thousandths.
abbrev pub TeElement : Type 0
TeElement = List ℕ × ℕ

-- whether an element names a supported coding
abbrev pub IsSupported : TeElement → Type 0
IsSupported e = coding_named e.0 ≢ None

-- Whether a coding is the one that the elements choose: one of them names it with a quality above 0, no supported
-- element has a greater quality, and none before that one has an equal quality.
pub record IsChosen (elements : List TeElement) (coding : Coding) : Type 0 where
  pub before : List TeElement
  pub chosen : TeElement
  pub after : List TeElement
  pub joins : elements ≡ before ++ chosen ∷ after
  pub names : coding_named chosen.0 ≡ Some coding
  pub above_0 : 0 < chosen.1
  pub none_greater : All (λ e. IsSupported e → e.1 ≤ chosen.1) elements
  pub none_equal_before : All (λ e. IsSupported e → e.1 ≢ chosen.1) before

-- whether the elements choose this coding; they choose none if each supported element has quality 0
abbrev pub Choose : List TeElement → Option Coding → Type 0
Choose elements None = All (λ e. IsSupported e → e.1 ≡ 0) elements
Choose elements (Some coding) = IsChosen elements coding

abbrev pub IsTe : Header → Type 0
IsTe h = IsTrue (same_name h.field (codes "TE"))

-- THE CODING ASKED FOR: whether request headers ask for this coding. The elements of the first TE header choose it;
-- without such a header it is none.
abbrev pub AsksFor : List Header → Option Coding → Type 0
AsksFor [] asked = asked ≡ None
AsksFor (h ∷ hs) asked =
    (IsTe h × (elements : List TeElement) × ListsQualities h.value elements × Choose elements asked)
    ⊎ (¬ (IsTe h) × AsksFor hs asked)

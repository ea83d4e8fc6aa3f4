-- Lines of replies written one after another.
use Rattle.std.proofs.Common.{rules, ◌≡◌, sym, ap, ◌∙◌, ℕ, ◌+◌, ◌<◌, List, [], ◌∷◌, ◌++◌, length, take, get_or, map, Option, Some, None, append_assoc, codes, decimal}
use Rattle.std.proofs.lemmas.List.{take_more}
use Rattle.std.specs.List.{flat_map}
use Rattle.std.specs.Io.KnownBytes.{Appends}
use Rattle.tiny_http_core.specs.Seen.{seen}
use Rattle.tiny_http_core.specs.declared.driver.Reply.{Reply}
use Rattle.tiny_http_wire.specs.Common.{version_text, method_text}
use Rattle.tiny_http_wire.specs.Heads.{Message}
use Rattle.replay_script.specs.Reply.{reply_line, length_text, handed_text}

-- known bytes that grow twice
appends_twice : (old mid new : Option (List ℕ)) (xs ys : List ℕ) → Appends old mid xs → Appends mid new ys → Appends old new (xs ++ ys)
appends_twice None mid new xs ys p q = tt
appends_twice (Some a) None new xs ys p q = absurd p
appends_twice (Some a) (Some b) None xs ys p q = absurd q
appends_twice (Some a) (Some b) (Some c) xs ys p q = q ∙ ap (λ front. front ++ ys) p ∙ append_assoc a xs ys

-- the lines of replies
abbrev pub lines_of : List Reply → List ℕ
lines_of replies = flat_map reply_line (map seen replies)

lines_of-push : (replies : List Reply) (reply : Reply) → lines_of (replies ++ reply ∷ []) ≡ lines_of replies ++ reply_line (seen reply)
lines_of-push [] reply = search rules
lines_of-push (r ∷ replies) reply = ap (λ rest. reply_line (seen r) ++ rest) (lines_of-push replies reply) ∙ sym (append_assoc (reply_line (seen r)) (lines_of replies) (reply_line (seen reply)))

-- one reply's line more
pub line_more : (old mid new : Option (List ℕ)) (replies : List Reply) (i : ℕ) (reply : Reply)
    → i < length replies → reply ≡ get_or replies i reply
    → Appends old mid (lines_of (take i replies)) → Appends mid new (reply_line (seen reply))
    → Appends old new (lines_of (take (i + 1) replies))
line_more old mid new replies i reply l item p q =
    let more : take (i + 1) replies ≡ take i replies ++ reply ∷ [] = take_more replies i reply l ∙ ap (λ x. take i replies ++ x ∷ []) (sym item) in
    rw (more, lines_of-push (take i replies) reply) (appends_twice old mid new _ _ p q)

-- twelve pieces, joined from the front or from behind
pieces_joined : (a b c d e f g h i j k l : List ℕ) → a ++ b ++ c ++ d ++ e ++ f ++ g ++ h ++ i ++ j ++ k ++ l ≡ a ++ (b ++ (c ++ (d ++ (e ++ (f ++ (g ++ (h ++ (i ++ (j ++ (k ++ l))))))))))
pieces_joined a b c d e f g h i j k l = simp append_assoc

-- a request's line, joined from behind
abbrev pub joined_handed : ℕ → Message → Option ℕ → List ℕ → ℕ → List ℕ
joined_handed k m said path count =
    codes "handed " ++ (decimal k ++ (codes " " ++ (method_text m.method ++ (codes " " ++ (path ++ (codes " " ++ (version_text m.version ++ (codes " " ++ (decimal count ++ (codes " " ++ length_text said))))))))))

pub handed_joined : (k : ℕ) (m : Message) (said : Option ℕ) (path : List ℕ) (count : ℕ) → path ≡ m.path → count ≡ length m.headers → joined_handed k m said path count ≡ handed_text k m said
handed_joined k m said path count p n =
    ap (λ t. joined_handed k m said t count) p ∙ ap (λ t. joined_handed k m said m.path t) n
    ∙ sym (pieces_joined (codes "handed ") (decimal k) (codes " ") (method_text m.method) (codes " ") m.path (codes " ") (version_text m.version) (codes " ") (decimal (length m.headers)) (codes " ") (length_text said))

-- How the joined output goes with more slots.
use Rattle.std.proofs.Common.{◌≡◌, refl, sym, ap, ◌∙◌, ℕ, Bool, true, false, not, ◌&&◌, ◌||◌, List, [], ◌∷◌, ◌++◌, append_assoc}
use Rattle.std.specs.Prelude.{if◌then◌else◌}
use Rattle.std.specs.List.{list_all}
use Rattle.std.proofs.lemmas.Bool.{and_parts}
use Rattle.tiny_http_connection.specs.Segments.{Slot, is_finished, is_slot_broken, segment}
use Rattle.tiny_http_connection.specs.Slots.{is_output_broken, joined}
use Rattle.tiny_http_response.proofs.SendingLemmas.{or-parts}

-- a test of all, and of one more
pub all-snoc : {X : Type 0} (p : X → Bool) (xs : List X) (x : X) → list_all p xs ≡ true → p x ≡ true → list_all p (xs ++ x ∷ []) ≡ true
all-snoc p [] x h k = rw k refl
all-snoc p (y ∷ ys) x h k = let a = and_parts (p y) (list_all p ys) h in rw (a.0, all-snoc p ys x a.1 k) refl

-- joined segments
goes-on : (f b : Bool) (u v w : List ℕ) → (f ≡ true → b ≡ false → u ≡ v) → w ++ (if (f && not b) then u else []) ≡ w ++ (if (f && not b) then v else [])
goes-on true false u v w h = ap (λ r. w ++ r) (h refl refl)
goes-on true true u v w h = refl
goes-on false b u v w h = refl

pub joined-cons : (x : Slot) (ys zs : List Slot) → (is_finished x ≡ true → is_slot_broken x ≡ false → joined ys ≡ joined zs) → joined (x ∷ ys) ≡ joined (x ∷ zs)
joined-cons x ys zs h = goes-on (is_finished x) (is_slot_broken x) (joined ys) (joined zs) (segment x) h

-- all before are finished, and none broke off: what is after follows
pub joined-front : (xs ys : List Slot) → list_all is_finished xs ≡ true → is_output_broken xs ≡ false → joined (xs ++ ys) ≡ joined xs ++ joined ys
joined-front [] ys a b = refl
joined-front (x ∷ xs) ys a b =
    let h = and_parts (is_finished x) (list_all is_finished xs) a in
    let c = or-parts (is_slot_broken x) (is_finished x && is_output_broken xs) b in
    let c2 : is_output_broken xs ≡ false = rw h.0 at c.1 in
    rw (h.0, c.0) (ap (λ r. segment x ++ r) (joined-front xs ys h.1 c2) ∙ sym (append_assoc (segment x) (joined xs) (joined ys)))

-- one broke off: nothing follows
pub joined-broken : (slots : List Slot) (more : List Slot) → is_output_broken slots ≡ true → joined (slots ++ more) ≡ joined slots
joined-broken [] more b = cc
joined-broken (x ∷ xs) more b =
    joined-cons x (xs ++ more) xs (λ f nb. let c : is_output_broken xs ≡ true = rw (nb, f) at b in joined-broken xs more c)

-- one that waits hides what is after it
pub joined-waits : (xs : List Slot) (s : Slot) (ys : List Slot) → segment s ≡ [] → is_finished s ≡ false → joined (xs ++ (s ∷ ys)) ≡ joined xs
joined-waits [] s ys e f = rw (e, f) refl
joined-waits (x ∷ xs) s ys e f = joined-cons x (xs ++ (s ∷ ys)) xs (λ g nb. joined-waits xs s ys e f)

-- two that wait and have sent the same
pub joined-alike : (xs : List Slot) (s t : Slot) (ys : List Slot) → segment s ≡ segment t → is_finished s ≡ false → is_finished t ≡ false → joined (xs ++ (s ∷ ys)) ≡ joined (xs ++ (t ∷ ys))
joined-alike [] s t ys e f g = rw (e, f, g) refl
joined-alike (x ∷ xs) s t ys e f g = joined-cons x (xs ++ (s ∷ ys)) (xs ++ (t ∷ ys)) (λ h nb. joined-alike xs s t ys e f g)

pub joined-hidden : (xs ys : List Slot) → list_all is_finished xs ≡ false → joined (xs ++ ys) ≡ joined xs
joined-hidden [] ys h = cc
joined-hidden (x ∷ xs) ys h = joined-cons x (xs ++ ys) xs (λ g nb. let more : list_all is_finished xs ≡ false = rw g at h in joined-hidden xs ys more)

or-assoc : (a b c : Bool) → (a || (b || c)) ≡ ((a || b) || c)
or-assoc true b c = refl
or-assoc false b c = refl

pub breaks-front : (xs ys : List Slot) → list_all is_finished xs ≡ true → is_output_broken (xs ++ ys) ≡ (is_output_broken xs || is_output_broken ys)
breaks-front [] ys a = refl
breaks-front (x ∷ xs) ys a =
    let h = and_parts (is_finished x) (list_all is_finished xs) a in
    rw h.0 (ap (λ r. is_slot_broken x || r) (breaks-front xs ys h.1) ∙ or-assoc (is_slot_broken x) (is_output_broken xs) (is_output_broken ys))

breaks-cons : (f b u v : Bool) → (f ≡ true → u ≡ v) → (b || (f && u)) ≡ (b || (f && v))
breaks-cons true b u v h = ap (λ r. b || r) (h refl)
breaks-cons false b u v h = refl

pub breaks-waits : (xs : List Slot) (s : Slot) (ys : List Slot) → is_slot_broken s ≡ false → is_finished s ≡ false → is_output_broken (xs ++ (s ∷ ys)) ≡ is_output_broken xs
breaks-waits [] s ys e f = rw (e, f) refl
breaks-waits (x ∷ xs) s ys e f = breaks-cons (is_finished x) (is_slot_broken x) (is_output_broken (xs ++ (s ∷ ys))) (is_output_broken xs) (λ g. breaks-waits xs s ys e f)

pub breaks-hidden : (xs ys : List Slot) → list_all is_finished xs ≡ false → is_output_broken (xs ++ ys) ≡ is_output_broken xs
breaks-hidden [] ys h = cc
breaks-hidden (x ∷ xs) ys h = breaks-cons (is_finished x) (is_slot_broken x) (is_output_broken (xs ++ ys)) (is_output_broken xs) (λ g. let more : list_all is_finished xs ≡ false = rw g at h in breaks-hidden xs ys more)

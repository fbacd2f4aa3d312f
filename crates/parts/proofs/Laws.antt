-- The parts are laid one after another, and only they are.
use Rattle.std.proofs.Common.{◌≡◌, ℕ, zero, suc, ◌+◌, ◌<◌, ◌≤◌, ◌⊎◌, List, [], ◌∷◌, ◌++◌, length, take, drop, sym, refl, ap, ◌∙◌, inl, inr, ⊎_elim, append-nil, arith}
use Rattle.std.specs.List.{flat_map}
use Rattle.std.proofs.lemmas.List.{length-append, length-take-le, length-drop, take-append-drop, take_all, drop_all, get_or_append_left, take_at, drop_at}
use Rattle.std.proofs.lemmas.Bool.{cases_lt}
use Rattle.parts.specs.Cut.{Piece, model, pair, hand_in, stated, part_length, cut_within, cut, files, parts_from}
use Rattle.parts.specs.Law.{bytes_of, place_of, Whole, HandIns, Laid, Rejoins}
use Rattle.parts.proofs.Steps.{cut_step, cut_none}

-- A file that is whole, or cut short where nothing follows it.
abbrev Ended : List ℕ → List ℕ → Type 0
Ended file tail = (length file ≡ stated file) ⊎ ((tail ≡ []) × (length file ≤ stated file))

-- What a file states does not change with what follows it.
stated_front : (file tail : List ℕ) → 3 ≤ length file → stated (file ++ tail) ≡ stated file
stated_front file tail h =
    let one = get_or_append_left file tail 0 1 (omega arith) in
    let two = get_or_append_left file tail 0 2 (omega arith) in
    cc

part_is : (file tail : List ℕ) → Ended file tail → part_length (file ++ tail) ≡ length file
part_is file tail (inl e) = let s = stated_front file tail (omega arith) in omega (arith, length-append file tail)
part_is file tail (inr (e, h)) = rw (e, append-nil) (omega arith)

part_ended : (bs : List ℕ) → Ended (take (part_length bs) bs) (drop (part_length bs) bs)
part_ended bs =
    ⊎_elim
    (λ more.
    let e : stated (take (part_length bs) bs ++ drop (part_length bs) bs) ≡ stated bs = ap stated (take-append-drop (part_length bs) bs) in
    let l : length (take (part_length bs) bs) ≡ part_length bs = length-take-le (part_length bs) bs (omega arith) in
    inl (omega (arith, e, stated_front (take (part_length bs) bs) (drop (part_length bs) bs) (omega arith))))
    (λ less.
    let all : take (part_length bs) bs ≡ bs = take_all (part_length bs) bs (omega arith) in
    inr (drop_all (part_length bs) bs (omega arith), rw all less))
    (cases_lt (stated bs) (length bs))

none_left : (ps : List Piece) → HandIns ps → flat_map bytes_of ps ≡ [] → ps ≡ []
none_left [] h e = refl
none_left (model b at ∷ ps) h e = absurd h
none_left (pair bs at ∷ ps) h e = absurd h
none_left (hand_in bs at ∷ ps) h e = absurd (omega (arith, ap length e, length-append bs (flat_map bytes_of ps)))

whole_cons : (p : Piece) (ps : List Piece) → HandIns ps → Ended (bytes_of p) (flat_map bytes_of ps) → Whole ps → Whole (p ∷ ps)
whole_cons p [] h (inl e) w = omega arith
whole_cons p [] h (inr (e, k)) w = k
whole_cons p (q ∷ ps) h (inl e) w = (e, w)
whole_cons p (q ∷ ps) h (inr (e, k)) w = absurd (omega (arith, ap length (none_left (q ∷ ps) h e)))

whole_first : (p : Piece) (ps : List Piece) → Whole (p ∷ ps) → Ended (bytes_of p) (flat_map bytes_of ps) × Whole ps
whole_first p [] w = (inr (refl, w), tt)
whole_first p (q ∷ ps) w = (inl w.0, w.1)

-- One more part before those of what follows it.
laid_cons : (p : Piece) (bs : List ℕ) (at : ℕ) (ps : List Piece) → bytes_of p ≡ take (part_length bs) bs → place_of p ≡ at → HandIns ps
    → Laid (drop (part_length bs) bs) (at + part_length bs) ps → Laid bs at (p ∷ ps)
laid_cons p bs at ps e place h l =
    let size : length (bytes_of p) ≡ part_length bs = ap length e ∙ length-take-le (part_length bs) bs (omega arith) in
    record {
      rejoined = rw (e, l.rejoined) (take-append-drop (part_length bs) bs);
      placed = (place, rw size l.placed);
      whole = whole_cons p ps h (rw (e, l.rejoined) (part_ended bs)) l.whole;
    }

laid_first : (p : Piece) (bs : List ℕ) (at : ℕ) (ps : List Piece) → Laid bs at (p ∷ ps)
    → (bytes_of p ≡ take (part_length bs) bs) × (place_of p ≡ at) × Laid (drop (part_length bs) bs) (at + part_length bs) ps
laid_first p bs at ps l =
    let w = whole_first p ps l.whole in
    let tail = flat_map bytes_of ps in
    let k : part_length bs ≡ length (bytes_of p) = ap part_length (sym l.rejoined) ∙ part_is (bytes_of p) tail w.0 in
    let t : take (part_length bs) bs ≡ bytes_of p = rw (k, ← l.rejoined) (take_at (bytes_of p) tail _ refl) in
    let d : drop (part_length bs) bs ≡ tail = rw (k, ← l.rejoined) (drop_at (bytes_of p) tail _ refl) in
    (sym t, l.placed.0, record { rejoined = sym d; placed = rw k l.placed.1; whole = w.1 })

within_laid : (n : ℕ) (bs : List ℕ) (at : ℕ) → length bs ≤ n → Laid bs at (cut_within n bs at) × HandIns (cut_within n bs at)
unfolding cut_within
within_laid zero [] at h = (record { rejoined = refl; placed = tt; whole = tt }, tt)
within_laid zero (b ∷ bs) at h = absurd (omega arith)
within_laid (suc n) [] at h = (record { rejoined = refl; placed = tt; whole = tt }, tt)
within_laid (suc n) (b ∷ bs) at h =
    let k = part_length (b ∷ bs) in
    let rest = within_laid n (drop k (b ∷ bs)) (at + k) (omega (arith, length-drop k (b ∷ bs))) in
    (laid_cons (hand_in (take k (b ∷ bs)) at) (b ∷ bs) at _ refl refl rest.1 rest.0, (omega (arith, length-take-le k (b ∷ bs) (omega arith)), rest.1))

cut_only : (ps : List Piece) (bs : List ℕ) (at : ℕ) → Laid bs at ps → HandIns ps → cut bs at ≡ ps
cut_only [] bs at l h = rw (← l.rejoined) (cut_none at)
cut_only (model b a ∷ ps) bs at l h = absurd h
cut_only (pair f a ∷ ps) bs at l h = absurd h
cut_only (hand_in f a ∷ ps) bs at l h =
    let first = laid_first (hand_in f a) bs at ps l in
    let some : 0 < length bs = omega (arith, ap length l.rejoined, length-append f (flat_map bytes_of ps)) in
    let step = cut_step bs at some in
    let rest = cut_only ps (drop (part_length bs) bs) (at + part_length bs) first.2 h.1 in
    let e : f ≡ take (part_length bs) bs = first.0 in
    let place : a ≡ at = first.1 in
    cc

files_only : (f : List ℕ) (ps : List Piece) (bs : List ℕ) (at : ℕ) → Laid bs at (pair f at ∷ ps) → HandIns ps → files bs at ≡ pair f at ∷ ps
unfolding files
files_only f ps bs at l h =
    let first = laid_first (pair f at) bs at ps l in
    let rest = cut_only ps (drop (part_length bs) bs) (at + part_length bs) first.2 h in
    let e : f ≡ take (part_length bs) bs = first.0 in
    cc

pub rejoins : (stream : List ℕ) → Rejoins stream
unfolding parts_from files cut
rejoins [] = refl
rejoins (b ∷ bs) =
    let k = part_length bs in
    let rest = within_laid (length (drop k bs)) (drop k bs) (1 + k) (omega arith) in
    record {
      file = take k bs;
      handed = cut (drop k bs) (1 + k);
      parts = refl;
      laid = laid_cons (pair (take k bs) 1) bs 1 _ refl refl rest.1 rest.0;
      hand_ins = rest.1;
      only = λ f ps l h. ap (λ fs. model b 0 ∷ fs) (files_only f ps bs 1 l h);
    }

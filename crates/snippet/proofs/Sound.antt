-- What is read as a snippet is its encoding, and the snippet keeps the limits.
use Rattle.std.proofs.Common.{◌≡◌, ℕ, zero, suc, ◌+◌, ◌-◌, ◌*◌, ◌<◌, ◌≤◌, Bool, true, false, cond, eqb, ltb, List, [], ◌∷◌, ◌++◌, length, get_or, Ok, Result, refl, ap, subst, inl, inr, arith, length-append, ltb-true}
use Rattle.std.proofs.lemmas.Bool.{eqb-true, eqb-false, and_from}
use Rattle.snippet.proofs.Holds.{Holds, join, moved}
use Rattle.snippet.proofs.Inverse.{both, keep, pick, no_ok, ok_inj, operand_ok, Spanned, inner_ok, there, sized_holds}
use Rattle.snippet.specs.Program.{Block, Command, end, then, skip, load, store, constant, copy, sum, equal, compare_and_swap, fence, get, print, size_b, size_c}
use Rattle.snippet.specs.Keeps.{Sizes, keeps_b, keeps_c}
use Rattle.snippet.specs.Encode.{Bytes, sized, encode_b, encode_c}
use Rattle.snippet.specs.Parse.{and_then, operand_at, inner_at, one, two, three, four, leaf_at, branch_at, declare_at, parse_c, parse_b}
use Rattle.trace.specs.declared.refusal.Refusal.{Refusal}
use Rattle.std.specs.declared.ops.Range.{Range}
use Rattle.trace.specs.declared.refusal.Cause.TheVariants.{TooMuch}

pub record SoundB (m : Sizes) (bs : List ℕ) (depth seen at to : ℕ) (t : Block) : Type 0 where
  pub holds : Holds 0 bs at (encode_b t)
  pub ends : to ≡ at + length (encode_b t)
  pub few : seen + size_b t ≤ 32
  pub proper : keeps_b m depth t ≡ true

pub record SoundC (m : Sizes) (bs : List ℕ) (depth seen at to : ℕ) (s : Command) (next : ℕ) : Type 0 where
  pub holds : Holds 0 bs at (encode_c s)
  pub ends : next ≡ at + length (encode_c s)
  pub more : at < next
  pub within : next ≤ to
  pub few : seen + size_c s ≤ 32
  pub proper : keeps_c m depth s ≡ true

module _ (m : Sizes) (bs : List ℕ) (b : Bytes bs) where
  -- An inner block behind its length.
  sized_block : (depth seen at to : ℕ) (i : Range ℕ) (t : Block) → Spanned bs at to i → SoundB m bs (depth + 1) seen i.start i.end t
      → Holds 0 bs at (sized (encode_b t)) × (i.end ≡ at + 2 + length (encode_b t))
  sized_block depth seen at to i t n s =
      let f = n.from in
      let g = n.to' in
      let e = s.ends in
      let l : length (encode_b t) ≡ get_or bs at 0 * 256 + get_or bs (at + 1) 0 = omega arith in
      (sized_holds bs at (encode_b t) b l (moved 0 bs i.start (at + 2) (encode_b t) f s.holds), omega arith)

  module _ (blocks : ℕ → ℕ → ℕ → Result Block Refusal) (depth seen at to : ℕ) (few : seen < 32)
      (inner : (k x y : ℕ) (t : Block) → k ≤ 32 → at < x → x ≤ y → y ≤ to → blocks k x y ≡ Ok t → SoundB m bs (depth + 1) k x y t) where
    abbrev Is : Command × ℕ → Type 0
    Is q = SoundC m bs depth seen at to q.0 q.1

    -- A command without blocks, from its number and its operands.
    plain : (n : ℕ) (s : Command) (xs : List ℕ) (next : ℕ) → encode_c s ≡ n ∷ xs → size_c s ≡ 1 → keeps_c m depth s ≡ true
        → get_or bs at 0 ≡ n → Holds 0 bs (at + 1) xs → next ≡ at + 1 + length xs → next ≤ to → Is (s, next)
    plain n s xs next en st proper h hs e w =
        let le = ap length en in
        record { holds = rw en (h, hs); ends = omega (arith, le); more = omega arith; within = w; few = omega (arith, st); proper = proper }

    sound_zero : (n : ℕ) (s : Command) → encode_c s ≡ n ∷ [] → size_c s ≡ 1 → keeps_c m depth s ≡ true → (z : Command × ℕ) → at < to → get_or bs at 0 ≡ n → ◌≡◌ {A = Result (Command × ℕ) Refusal} (Ok (s, at + 1)) (Ok z) → Is z
    sound_zero n s en st proper z l h e = subst Is (ok_inj _ _ e) (plain n s [] (at + 1) en st proper h tt (omega arith) (omega arith))

    sound_one : (n : ℕ) (p : ℕ) (mk : ℕ → Command) → ((a : ℕ) → encode_c (mk a) ≡ n ∷ a ∷ []) → ((a : ℕ) → size_c (mk a) ≡ 1) → ((a : ℕ) → ltb a p ≡ true → keeps_c m depth (mk a) ≡ true)
        → (z : Command × ℕ) → get_or bs at 0 ≡ n → one bs p mk at to ≡ Ok z → Is z
    sound_one n p mk enc steps proper z h e =
        let o0 = both _ _ z e in
        let x0 = operand_ok bs (at + 1) to p o0.0 o0.1.0 in
        subst Is (ok_inj _ _ o0.1.1)
        (plain n (mk o0.0) (o0.0 ∷ []) (at + 2) (enc o0.0) (steps o0.0) (proper o0.0 x0.2) h (x0.0, tt) (omega arith) (omega (arith, x0.1)))

    sound_two : (n : ℕ) (p q : ℕ) (mk : ℕ → ℕ → Command) → ((a b : ℕ) → encode_c (mk a b) ≡ n ∷ a ∷ b ∷ []) → ((a b : ℕ) → size_c (mk a b) ≡ 1) → ((a b : ℕ) → ltb a p ≡ true → ltb b q ≡ true → keeps_c m depth (mk a b) ≡ true)
        → (z : Command × ℕ) → get_or bs at 0 ≡ n → two bs p q mk at to ≡ Ok z → Is z
    sound_two n p q mk enc steps proper z h e =
        let o0 = both _ _ z e in
        let o1 = both _ _ z o0.1.1 in
        let x0 = operand_ok bs (at + 1) to p o0.0 o0.1.0 in
        let x1 = operand_ok bs (at + 2) to q o1.0 o1.1.0 in
        subst Is (ok_inj _ _ o1.1.1)
        (plain n (mk o0.0 o1.0) (o0.0 ∷ o1.0 ∷ []) (at + 3) (enc o0.0 o1.0) (steps o0.0 o1.0) (proper o0.0 o1.0 x0.2 x1.2) h
        (x0.0, (there bs (at + 2) (at + 1 + 1) o1.0 (omega arith) x1.0, tt)) (omega arith) (omega (arith, x1.1)))

    sound_three : (n : ℕ) (p q r : ℕ) (mk : ℕ → ℕ → ℕ → Command) → ((a b c : ℕ) → encode_c (mk a b c) ≡ n ∷ a ∷ b ∷ c ∷ []) → ((a b c : ℕ) → size_c (mk a b c) ≡ 1) → ((a b c : ℕ) → ltb a p ≡ true → ltb b q ≡ true → ltb c r ≡ true → keeps_c m depth (mk a b c) ≡ true)
        → (z : Command × ℕ) → get_or bs at 0 ≡ n → three bs p q r mk at to ≡ Ok z → Is z
    sound_three n p q r mk enc steps proper z h e =
        let o0 = both _ _ z e in
        let o1 = both _ _ z o0.1.1 in
        let o2 = both _ _ z o1.1.1 in
        let x0 = operand_ok bs (at + 1) to p o0.0 o0.1.0 in
        let x1 = operand_ok bs (at + 2) to q o1.0 o1.1.0 in
        let x2 = operand_ok bs (at + 3) to r o2.0 o2.1.0 in
        subst Is (ok_inj _ _ o2.1.1)
        (plain n (mk o0.0 o1.0 o2.0) (o0.0 ∷ o1.0 ∷ o2.0 ∷ []) (at + 4) (enc o0.0 o1.0 o2.0) (steps o0.0 o1.0 o2.0) (proper o0.0 o1.0 o2.0 x0.2 x1.2 x2.2) h
        (x0.0, (there bs (at + 2) (at + 1 + 1) o1.0 (omega arith) x1.0, (there bs (at + 3) (at + 1 + 1 + 1) o2.0 (omega arith) x2.0, tt))) (omega arith) (omega (arith, x2.1)))

    sound_four : (n : ℕ) (p q r s : ℕ) (mk : ℕ → ℕ → ℕ → ℕ → Command) → ((a b c d : ℕ) → encode_c (mk a b c d) ≡ n ∷ a ∷ b ∷ c ∷ d ∷ []) → ((a b c d : ℕ) → size_c (mk a b c d) ≡ 1) → ((a b c d : ℕ) → ltb a p ≡ true → ltb b q ≡ true → ltb c r ≡ true → ltb d s ≡ true → keeps_c m depth (mk a b c d) ≡ true)
        → (z : Command × ℕ) → get_or bs at 0 ≡ n → four bs p q r s mk at to ≡ Ok z → Is z
    sound_four n p q r s mk enc steps proper z h e =
        let o0 = both _ _ z e in
        let o1 = both _ _ z o0.1.1 in
        let o2 = both _ _ z o1.1.1 in
        let o3 = both _ _ z o2.1.1 in
        let x0 = operand_ok bs (at + 1) to p o0.0 o0.1.0 in
        let x1 = operand_ok bs (at + 2) to q o1.0 o1.1.0 in
        let x2 = operand_ok bs (at + 3) to r o2.0 o2.1.0 in
        let x3 = operand_ok bs (at + 4) to s o3.0 o3.1.0 in
        subst Is (ok_inj _ _ o3.1.1)
        (plain n (mk o0.0 o1.0 o2.0 o3.0) (o0.0 ∷ o1.0 ∷ o2.0 ∷ o3.0 ∷ []) (at + 5) (enc o0.0 o1.0 o2.0 o3.0) (steps o0.0 o1.0 o2.0 o3.0) (proper o0.0 o1.0 o2.0 o3.0 x0.2 x1.2 x2.2 x3.2) h
        (x0.0, (there bs (at + 2) (at + 1 + 1) o1.0 (omega arith) x1.0, (there bs (at + 3) (at + 1 + 1 + 1) o2.0 (omega arith) x2.0, (there bs (at + 4) (at + 1 + 1 + 1 + 1) o3.0 (omega arith) x3.0, tt)))) (omega arith) (omega (arith, x3.1)))

    -- The number of a command is one, or the rest holds.
    told : (n : ℕ) {x y : Result (Command × ℕ) Refusal} {z : Command × ℕ} → (get_or bs at 0 ≡ n → x ≡ Ok z → Is z) → (y ≡ Ok z → Is z) → cond (eqb (get_or bs at 0) n) x y ≡ Ok z → Is z
    told n {x} {y} {z} here further e = elim (pick (get_or bs at 0) n x y z e) [
      | inl w ↦ here w.0 w.1
      | inr r ↦ further r
    ]

    sound_leaf : (z : Command × ℕ) → at < to → leaf_at m bs at to ≡ Ok z → Is z
    sound_leaf z l =
        told 0 (sound_zero 0 skip refl refl refl z l)
        (told 1 (sound_two 1 m.registers m.locations load (λ a b. refl) (λ a b. refl) (λ a b. and_from _ _) z)
        (told 2 (sound_two 2 m.locations m.registers store (λ a b. refl) (λ a b. refl) (λ a b. and_from _ _) z)
        (told 3 (sound_two 3 m.registers m.values constant (λ a b. refl) (λ a b. refl) (λ a b. and_from _ _) z)
        (told 4 (sound_two 4 m.registers m.registers copy (λ a b. refl) (λ a b. refl) (λ a b. and_from _ _) z)
        (told 5 (sound_three 5 m.registers m.registers m.registers sum (λ a b c. refl) (λ a b c. refl) (λ a b c x y u. and_from _ _ x (and_from _ _ y u)) z)
        (told 6 (sound_three 6 m.registers m.registers m.registers equal (λ a b c. refl) (λ a b c. refl) (λ a b c x y u. and_from _ _ x (and_from _ _ y u)) z)
        (told 7 (sound_four 7 m.registers m.locations m.registers m.registers compare_and_swap (λ a b c d. refl) (λ a b c d. refl) (λ a b c d x y u v. and_from _ _ x (and_from _ _ y (and_from _ _ u v))) z)
        (told 8 (sound_zero 8 fence refl refl refl z l)
        (told 9 (sound_one 9 m.registers get (λ a. refl) (λ a. refl) (λ a x. x) z)
        (told 10 (sound_one 10 m.registers print (λ a. refl) (λ a. refl) (λ a x. x) z)
        (λ e. absurd (no_ok _ z e))))))))))))

    sound_declare : (q : Command × ℕ) → get_or bs at 0 ≡ 12 → declare_at m blocks bs depth seen at to ≡ Ok q → Is q
    sound_declare q h e =
        let p = both _ _ q e in
        let o = both _ _ q p.1.1 in
        let i = both _ _ q o.1.1 in
        let t = both _ _ q i.1.1 in
        let x = operand_ok bs (at + 1) to m.registers p.0 p.1.0 in
        let y = operand_ok bs (at + 2) to m.values o.0 o.1.0 in
        let d = inner_ok bs depth (at + 3) to i.0 i.1.0 in
        let n = d.0 in
        let s = inner (seen + 1) i.0.start i.0.end t.0 (omega arith) (omega (arith, n.from)) (omega (arith, n.from, n.to')) n.within t.1.0 in
        let k = sized_block depth (seen + 1) (at + 3) to i.0 t.0 n s in
        subst Is (ok_inj _ _ t.1.1)
        record {
          holds = (h, (x.0, (there bs (at + 2) (at + 1 + 1) o.0 (omega arith) y.0, moved 0 bs (at + 3) (at + 1 + 1 + 1) (sized (encode_b t.0)) (omega arith) k.0)));
          ends = omega (arith, k.1);
          more = omega (arith, k.1);
          within = n.within;
          few = omega (arith, s.few);
          proper = and_from _ _ x.2 (and_from _ _ y.2 (and_from _ _ d.1 s.proper));
        }

    sound_branch : (q : Command × ℕ) → get_or bs at 0 ≡ 11 → branch_at m blocks bs depth seen at to ≡ Ok q → Is q
    sound_branch q h e =
        let p = both (operand_at bs (at + 1) to m.registers) _ q e in
        let i = both (inner_at bs depth (at + 2) to) _ q p.1.1 in
        let t = both (blocks (seen + 1) i.0.start i.0.end) _ q i.1.1 in
        let j = both (inner_at bs depth i.0.end to) _ q t.1.1 in
        let u = both (blocks (seen + 1 + size_b t.0) j.0.start j.0.end) _ q j.1.1 in
        let x = operand_ok bs (at + 1) to m.registers p.0 p.1.0 in
        let d = inner_ok bs depth (at + 2) to i.0 i.1.0 in
        let n = d.0 in
        let s = inner (seen + 1) i.0.start i.0.end t.0 (omega arith) (omega (arith, n.from)) (omega (arith, n.from, n.to')) n.within t.1.0 in
        let k = sized_block depth (seen + 1) (at + 2) to i.0 t.0 n s in
        let n' = (inner_ok bs depth i.0.end to j.0 j.1.0).0 in
        let s' = inner (seen + 1 + size_b t.0) j.0.start j.0.end u.0 s.few (omega (arith, n'.from, k.1)) (omega (arith, n'.from, n'.to')) n'.within u.1.0 in
        let k' = sized_block depth (seen + 1 + size_b t.0) i.0.end to j.0 u.0 n' s' in
        let one = sized (encode_b t.0) in
        let two = sized (encode_b u.0) in
        let l = length-append (encode_b t.0) two in
        subst Is (ok_inj _ _ u.1.1)
        record {
          holds = (
            h,
            (
              x.0,
              moved 0 bs (at + 2) (at + 1 + 1) (one ++ two) (omega arith)
                  (join 0 bs (at + 2) one two k.0 (moved 0 bs i.0.end (at + 2 + length one) two (omega (arith, k.1)) k'.0)),
            ),
          );
          ends = omega (arith, k.1, k'.1);
          more = omega (arith, k.1, k'.1);
          within = n'.within;
          few = omega (arith, s'.few);
          proper = and_from _ _ x.2 (and_from _ _ d.1 (and_from _ _ s.proper s'.proper));
        }

    pub sound_c : (q : Command × ℕ) → at < to → parse_c m blocks bs depth seen at to ≡ Ok q → SoundC m bs depth seen at to q.0 q.1
    sound_c q h e =
        let c = keep (ltb seen 32) TooMuch at _ q e in
        told 11 (sound_branch q) (told 12 (sound_declare q) (sound_leaf q h)) c.1

  pub sound_b : (f depth seen at to : ℕ) (t : Block) → to - at < f → at ≤ to → seen ≤ 32 → parse_b m f bs depth seen at to ≡ Ok t → SoundB m bs depth seen at to t
  sound_b zero depth seen at to t h l n e = absurd (omega arith)
  sound_b (suc f) depth seen at to t h l n e =
      by (eqb at to) refl
      (λ k x y u a b c d g. sound_b f (depth + 1) k x y u (omega arith) c a g)
      (λ k x u a b c g. sound_b f depth k x to u (omega arith) c a g) e
    where
      by : (c : Bool) → eqb at to ≡ c
          → ((k x y : ℕ) (u : Block) → k ≤ 32 → at < x → x ≤ y → y ≤ to → parse_b m f bs (depth + 1) k x y ≡ Ok u → SoundB m bs (depth + 1) k x y u)
          → ((k x : ℕ) (u : Block) → k ≤ 32 → at < x → x ≤ to → parse_b m f bs depth k x to ≡ Ok u → SoundB m bs depth k x to u)
          → cond c (Ok end) (and_then (parse_c m (parse_b m f bs (depth + 1)) bs depth seen at to) (λ s.
          and_then (parse_b m f bs depth (seen + size_c s.0) s.1 to) (λ b. Ok (then s.0 b)))) ≡ Ok t
          → SoundB m bs depth seen at to t
      by true q inner rest e =
          let z = eqb-true at to q in
          subst (λ (t : Block). SoundB m bs depth seen at to t) (ok_inj _ _ e) record { holds = tt; ends = omega arith; few = omega arith; proper = refl }
      by false q inner rest e =
          let ne = eqb-false at to q in
          let lt : at < to = omega (arith, ne) in
          let p = both _ _ t e in
          let c = keep (ltb seen 32) TooMuch at _ p.0 p.1.0 in
          let s = sound_c (parse_b m f bs (depth + 1)) depth seen at to (ltb-true seen 32 c.0) inner p.0 lt p.1.0 in
          let r = both _ _ t p.1.1 in
          let w = rest (seen + size_c p.0.0) p.0.1 r.0 s.few s.more s.within r.1.0 in
          let la = length-append (encode_c p.0.0) (encode_b r.0) in
          subst (λ (t : Block). SoundB m bs depth seen at to t) (ok_inj _ _ r.1.1)
          record {
            holds = join 0 bs at (encode_c p.0.0) (encode_b r.0) s.holds (moved 0 bs p.0.1 (at + length (encode_c p.0.0)) (encode_b r.0) s.ends w.holds);
            ends = omega (arith, s.ends, w.ends);
            few = omega (arith, w.few);
            proper = and_from _ _ s.proper w.proper;
          }

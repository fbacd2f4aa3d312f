-- Words laid over the caller's events.
use Rattle.std.proofs.Common.{◌≡◌, ℕ, suc, ◌+◌, ◌<◌, ◌≤◌, List, [], ◌∷◌, ◌++◌, length, slice_set, get_or, take, drop, Ok, Err, Result, sym, refl, ap, ◌∙◌, append-nil, arith, length-append, take-append-drop, length-take}
use lib.Seq.{sets, set_out, length-sets, drop-length}
use Rattle.trace.specs.Words.{Word}
use Rattle.trace.proofs.Lists.{sets-append, sets_start}
use Rattle.snippet.specs.Program.{Command}
use Rattle.runs.specs.Runs.{Run, ran, run_b}
use Rattle.snippet.specs.Layout.{after, command_of, block}
use Rattle.snippet.specs.declared.statement.Statement.{Statement}
use Rattle.snippet.specs.declared.statement.Statement.TheVariants.{Skip}
use Rattle.snippet.proofs.Blocks.{block_then}
use Rattle.runs.specs.Held.{held}
use Rattle.runs.specs.Walk.{Ends, block_in, Walks, of_block, of_command}
use Rattle.runs.specs.declared.machine.Machine.{Machine}
use Rattle.runs.specs.declared.full.Full.{Full}
use Rattle.runs.specs.declared.span.Span.{Span}

sets_out : (xs : Word) (i : ℕ) (a : Word) → length xs ≤ i → sets xs i a ≡ xs
sets_out xs i [] h = refl
sets_out xs i (w ∷ a) h = rw (set_out xs i w h) (sets_out xs (suc i) a (omega arith))

sets_full : (xs : Word) (i : ℕ) (a b : Word) → length xs ≤ i + length a → sets xs i (a ++ b) ≡ sets xs i a
sets_full xs i a b h = sets-append xs i a b ∙ sets_out (sets xs i a) (i + length a) b (rw length-sets h)

-- The first run and then the second.
abbrev joined : Run → Run → Run
joined one two = ran (one.word ++ two.word) two.registers two.rest

ends_on : (one two : Run) (room at : ℕ) (o : Result (Unit {0}) Full) (rs cs : List ℕ) (n : ℕ) → Ends o two room (at + length one.word) rs cs n → Ends o (joined one two) room at rs cs n
ends_on one two room at (Ok u) rs cs n h =
    let l = length-append one.word two.word in
    record { fits = omega (arith, h.fits); written = omega (arith, h.written); registers = h.registers; rest = h.rest }
ends_on one two room at (Err e) rs cs n h = omega (arith, length-append one.word two.word)

-- A register is set where a run has ended.
back : (run : Run) (room at register value : ℕ) (o : Result (Unit {0}) Full) (rs cs : List ℕ) (n : ℕ)
    → Ends o run room at rs cs n → Ends o (ran run.word (slice_set run.registers register value) run.rest) room at (slice_set rs register value) cs n
back run room at register value (Ok u) rs cs n h =
    record { fits = h.fits; written = h.written; registers = ap (λ (x : List ℕ). slice_set x register value) h.registers; rest = h.rest }
back run room at register value (Err e) rs cs n h = h

pub put_back : (run : Run) (m k n p : Machine) (register value : ℕ) (o : Result (Unit {0}) Full)
    → Walks run k n o → k.body ≡ m.body → k.events ≡ m.events → k.written ≡ m.written
    → held p.registers ≡ slice_set (held n.registers) register value → p.body ≡ n.body → p.events ≡ n.events → p.choices ≡ n.choices → p.written ≡ n.written
    → Walks (ran run.word (slice_set run.registers register value) run.rest) m p o
put_back run m k n p register value o w a b c d e f g h =
    record {
      body = e ∙ w.body ∙ a;
      same = rw (f, w.same, b) refl;
      events = rw (f, ← b, ← c) w.events;
      ends = rw (d, g, h, ← b, ← c) (back run _ _ register value o _ _ _ w.ends);
    }

-- A machine `m` stands at the first statement of a block.
module _ (m : Machine) (span : Span) (h : span.at < span.to) where
  abbrev statements : List Statement
  statements = m.body.now.statements

  abbrev command : Command
  command = command_of (block statements) (get_or statements span.at Skip) span.at span.to

  abbrev one : Run
  one = of_command m command

  abbrev whole : Run
  whole = of_block m (block_in m.body.now span)

  -- The events run out in the statement, so in the block.
  pub stopped : (n : Machine) (e : Full) → Walks one m n (Err e) → Walks whole m n (Err e)
  stopped n e w =
      let ev = m.events.now in
      let others = block statements (after (get_or statements span.at Skip) span.at span.to) span.to in
      let two = run_b m.body.now.limits.values others one.rest one.registers in
      rw (block_then statements span.at span.to h)
      record {
        body = w.body;
        same = w.same;
        events = w.events ∙ sym (sets_full ev m.written one.word two.word (omega (arith, w.ends)));
        ends = omega (arith, w.ends, length-append one.word two.word);
      }

  -- The statement is carried out, and the others decide.
  pub carried : (n p : Machine) (rest : Span) (o : Result (Unit {0}) Full)
      → Walks one m n (Ok tt)
      → rest.at ≡ after (get_or statements span.at Skip) span.at span.to
      → rest.to ≡ span.to
      → Walks (of_block n (block_in n.body.now rest)) n p o
      → Walks whole m p o
  carried n p rest o w at to others =
      let ev = m.events.now in
      let two = run_b m.body.now.limits.values (block statements (after (get_or statements span.at Skip) span.at span.to) span.to) one.rest one.registers in
      let same : of_block n (block_in n.body.now rest) ≡ two = rw (w.body, at, to, w.ends.registers, w.ends.rest) refl in
      let room : length n.events.now ≡ length ev = ap length w.events ∙ length-sets ev m.written one.word in
      let on : Ends o two (length ev) (m.written + length one.word) (held p.registers) p.choices p.written = rw (← same, ← room, ← w.ends.written) others.ends in
      rw (block_then statements span.at span.to h)
      record {
        body = others.body ∙ w.body;
        same = others.same ∙ w.same;
        events = others.events ∙ rw (same, w.events, w.ends.written) (sym (sets-append ev m.written one.word two.word));
        ends = ends_on one two (length ev) m.written o _ _ _ on;
      }

-- A word laid from the first place on, where there is not enough room.
pub sets_short : (ev w : Word) → length ev < 0 + length w → sets ev 0 w ≡ take (length ev) w
sets_short ev w h =
    let n = length ev in
    let l : length (take n w) ≡ n = simp length-take (omega arith) in
    ap (λ (x : Word). sets ev 0 x) (sym (take-append-drop n w))
    ∙ sets_full ev 0 (take n w) (drop n w) (omega arith)
    ∙ sets_start ev (take n w) (omega arith)
    ∙ ap (λ (x : Word). take n w ++ x) (rw l (drop-length ev))
    ∙ append-nil (take n w)

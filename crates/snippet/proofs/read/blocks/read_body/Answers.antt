use Rattle.std.proofs.Common.{suc, ◌-◌, ap, ◌∙◌, refl, sym, arith, rules}
use Rattle.std.proofs.lemmas.Result.{err_from_is_err_and}
use Rattle.snippet.proofs.Flat.{block_laid, front_laid, read_laid}
use Rattle.snippet.proofs.Sound.{sound_b}
use Rattle.snippet.specs.Program.{Block}
use Rattle.snippet.specs.Keeps.{sizes, keeps_b}
use Rattle.snippet.proofs.read.blocks.read_body.Goals as goal

pub returns-in_err-block-clause-gives : goal.returns-in_err-block-clause-gives
returns-in_err-block-clause-gives c =
    let s = c.in_ok-span.span in
    let p = err_from_is_err_and c.from_residual-in_err-block.result c.from_residual-in_err-block.ensures.1 in
    let e = c.in_err-block.ensures (suc (s.end - s.start)) (omega arith) in
    rw (p.1, p.2, sym c.in_ok-span.ensures.value, e) refl

pub invariant_of-body : goal.invariant_of-body
invariant_of-body c =
    let i = c.in_ok-span.span in
    let m = sizes c.args.limits in
    let b = c.in_ok-block.ensures (suc (i.end - i.start)) (omega arith) in
    let few = c.block.new.out.few in
    let s = sound_b m c.args.bytes.now (λ k. (c.type_inv.bytes k).fits) (suc (i.end - i.start)) 0 0 i.start i.end b.body (omega arith) (omega (arith, c.in_ok-span.ensures.order)) (omega arith) b.is in
    let same = block_laid _ _ b.body _ b.laid b.count (omega (arith, few)) in
    record {
      full = search rules;
      few = search rules;
      laid = front_laid _ _ b.body _ b.laid b.count (omega (arith, few));
      kept = ap (λ (t : Block). keeps_b m 0 t) same ∙ s.proper;
    }

pub returns-clause-gives : goal.returns-clause-gives
returns-clause-gives c =
    let i = c.in_ok-span.span in
    let b = c.in_ok-block.ensures (suc (i.end - i.start)) (omega arith) in
    let r = read_laid _ _ b.body _ b.is b.laid b.count (omega (arith, c.block.new.out.few)) in
    rw (sym c.in_ok-span.ensures.value, r) refl

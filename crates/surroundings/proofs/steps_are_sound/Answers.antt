use Rattle.surroundings.proofs.Sound.{sound}
use Rattle.surroundings.proofs.steps_are_sound.Goals as goal

pub returns : goal.returns
returns g c v o r f =
    let m = c.args.model.now in
    let met = g.met.M.Model in
    let s = g.S.Sets in
    let law = met.lawful m in
    sound law v s.sets s.words (s.sets o) (s.sets r) f

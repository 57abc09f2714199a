use Rattle.std.proofs.Common.{◌≡◌, ℕ, List, ap, ◌∙◌, ◌∷◌, [], codes, arith, rules}
use Rattle.world.specs.Command.{IsPath, words_of}
use Rattle.world.proofs.WordLaws.{three}
use Rattle.world.proofs.command.paths_of.Goals as goal

pub returns-in-len3-clause-some : goal.returns-in-len3-clause-some
returns-in-len3-clause-some c =
    let first : c.first-item.result.items ≡ codes "--roots" = search rules in
    let roots : IsPath c.roots-item.result.items = search rules in
    let dir : IsPath c.dir-item.result.items = search rules in
    let words = three c.args.words.now c.first-item.result c.roots-item.result c.dir-item.result (omega arith) (omega arith) c.first-item.is c.roots-item.is c.dir-item.is in
    rw (c.as_slice-in-len3.ensures.value, c.as_slice-in-len3-2.ensures.value) (record {
      words_are = ap words_of words ∙ ap (λ (w : List ℕ). w ∷ c.roots-item.result.items ∷ c.dir-item.result.items ∷ []) first;
      roots_path = roots;
      dir_path = dir;
    })

use Rattle.std.proofs.Common.{◌≡◌, length, take, refl, ◌∙◌, ap, arith}
use Rattle.cache_space.specs.declared.refusal.SpaceRefusal.TheVariants.{NoSpace}
use Rattle.cache_space.specs.Blocks.{as_runs}
use Rattle.cache_space.proofs.OpenBlocks.{open_blocks-free, open_blocks-few}
use Rattle.cache_space.proofs.space.CacheSpace.lowest.Goals as goal

pub returns-then-blocks-self-clause-no_space : goal.returns-then-blocks-self-clause-no_space
returns-then-blocks-self-clause-no_space c = λ total held is. (
  λ e. omega (arith, c.if-blocks-self.true, c.self.invariant.count, open_blocks-few c.self.inside.taken.items total held c.args.but.now (c.self.view_is ∙ is)),
  λ few. refl,
)

pub returns-in-Ok-clause-lowest : goal.returns-in-Ok-clause-lowest
returns-in-Ok-clause-lowest c = λ total held is.
    c.from_vec.ensures ∙ c.in-Ok.ensures.lowest ∙ ap (λ blocks. as_runs (take c.args.blocks blocks))
    (open_blocks-free c.as_slice-taken.result.now total held c.args.but.now (c.as_slice-taken.ensures.value ∙ c.self.view_is ∙ is))

pub returns-in-Ok-clause-enough : goal.returns-in-Ok-clause-enough
returns-in-Ok-clause-enough c = λ total held is.
    let same = ap length (open_blocks-free c.as_slice-taken.result.now total held c.args.but.now (c.as_slice-taken.ensures.value ∙ c.self.view_is ∙ is)) in
    omega (arith, c.in-Ok.ensures.enough, same)

pub returns-in-Ok-clause-no_space : goal.returns-in-Ok-clause-no_space
returns-in-Ok-clause-no_space c = λ total held is.
    let same = ap length (open_blocks-free c.as_slice-taken.result.now total held c.args.but.now (c.as_slice-taken.ensures.value ∙ c.self.view_is ∙ is)) in
    (λ e. cc, λ few. absurd (omega (arith, few, c.in-Ok.ensures.enough, same)))

pub returns-in-Err-clause-no_space : goal.returns-in-Err-clause-no_space
returns-in-Err-clause-no_space c = λ total held is.
    let same = ap length (open_blocks-free c.as_slice-taken.result.now total held c.args.but.now (c.as_slice-taken.ensures.value ∙ c.self.view_is ∙ is)) in (
      λ e. let none : c.in-Err.refusal ≡ NoSpace = cc in omega (arith, c.in-Err.ensures.no_space.0 (cc), same),
      λ few. let full = c.in-Err.ensures.no_space.1 (omega (arith, few, same)) in let none : c.in-Err.refusal ≡ NoSpace = cc in cc,
    )

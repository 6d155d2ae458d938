use Rattle.std.proofs.Common.{◌≡◌, ◌+◌, ◌-◌, drop, subst, sym, arith}
use Rattle.sam_pending.specs.Blocks.{flat}
use Rattle.sam_pending.specs.Runs.{place_in, rooms}
use Rattle.sam_pending.proofs.BlockLaws.{rooms-on, waits-on}
use Rattle.sam_pending.proofs.PassLaws.{place_on}
use Rattle.sam_pending.proofs.places.place_behind.Goals as goal

pub place_in-before-requires : goal.place_in-before-requires
place_in-before-requires c =
    let bs = c.args.blocks.now in
    let i = c.loop-block.block-index in
    let b = c.block-item.result in
    omega (arith, c.requires, c.loop-block.invariant.1, rooms-on bs i b c.loop-block-test.true c.block-item.is, waits-on bs i b c.loop-block-test.true c.block-item.is)

pub overflow_add-before : goal.overflow_add-before
overflow_add-before c =
    let bs = c.args.blocks.now in
    let i = c.loop-block.block-index in
    let b = c.block-item.result in
    omega (
      arith,
      c.requires,
      c.loop-block.invariant.1,
      c.place_in-before.ensures.most,
      rooms-on bs i b c.loop-block-test.true c.block-item.is,
      waits-on bs i b c.loop-block-test.true c.block-item.is,
    )

pub loop-block-preserved : goal.loop-block-preserved
loop-block-preserved c =
    let bs = c.args.blocks.now in
    let i = c.loop-block.block-index in
    let b = c.block-item.result in
    let g = c.args.group in
    let before = c.loop-block.before + c.place_in-before.result in
    let rest = flat (drop (i + 1) bs) in
    let left : c.saturating_sub-left.result ≡ c.loop-block.left - rooms b = omega (arith, c.saturating_sub-left.ensures, c.rasp_len.ensures) in
    let is : before + place_in g (c.loop-block.left - rooms b) rest ≡ place_in g c.args.place (flat bs) =
    omega (arith, c.loop-block.invariant.0, c.place_in-before.ensures.before, place_on g c.loop-block.left bs i b c.loop-block-test.true c.block-item.is) in (
      subst (λ k. before + place_in g k rest ≡ place_in g c.args.place (flat bs)) (sym left) is,
      omega (
        arith,
        c.loop-block.invariant.1,
        c.place_in-before.ensures.most,
        rooms-on bs i b c.loop-block-test.true c.block-item.is,
        waits-on bs i b c.loop-block-test.true c.block-item.is,
      ),
    )

use Rattle.std.proofs.Common.{◌≡◌, ◌++◌, [], length, take, refl, ap, ◌∙◌, arith}
use Rattle.sam_journal.specs.Checksums.{crc_32c}
use Rattle.sam_journal.specs.Records.{Entry, eight, four, front, heading, sum_of}
use Rattle.sam_journal.proofs.Spelling.{all_written, grown}
use Rattle.sam_journal.proofs.writing.frame_of.Goals as goal

front_written : goal.returns-clause-front
unfolding eight four
front_written c =
    let e : Entry = record { durable = c.args.durable; body = c.args.body.now } in
    let number : take 8 c.write_at.new.out ≡ eight c.args.number =
    grown 0 8 c.write_at.new.out c.to_be_bytes.result [] [] (eight c.args.number) refl c.to_be_bytes.ensures refl c.write_at.ensures.front in
    let len : take 12 c.write_at-2.new.out ≡ eight c.args.number ++ four (length c.args.body.now) =
    grown 8 4 c.write_at-2.new.out c.to_be_bytes-2.result (take 8 c.write_at.new.out) (eight c.args.number) (four (length c.args.body.now)) number
    c.to_be_bytes-2.ensures refl c.write_at-2.ensures.front in
    let durable : take 20 c.write_at-3.new.out ≡ heading c.args.number e =
    grown 12 8 c.write_at-3.new.out c.to_be_bytes-3.result (take 12 c.write_at-2.new.out) (eight c.args.number ++ four (length c.args.body.now))
    (eight c.args.durable) len c.to_be_bytes-3.ensures refl c.write_at-3.ensures.front in
    let sum : c.to_be_bytes-4.result ≡ sum_of c.args.random (heading c.args.number e) =
    c.to_be_bytes-4.ensures
    ∙ ap four (c.sum_of-sum.ensures ∙ ap (λ l. crc_32c (eight c.args.random ++ l)) (c.split_at.ensures.front ∙ durable)) in
    all_written 24 c.write_at-4.new.out (front c.args.random c.args.number e)
    (omega (arith, c.write_at.ensures.len, c.write_at-2.ensures.len, c.write_at-3.ensures.len, c.write_at-4.ensures.len))
    (grown 20 4 c.write_at-4.new.out c.to_be_bytes-4.result (take 20 c.write_at-3.new.out) (heading c.args.number e)
    (sum_of c.args.random (heading c.args.number e)) durable sum refl c.write_at-4.ensures.front)

pub returns-clause-front : goal.returns-clause-front
returns-clause-front = front_written

pub returns-clause-back : goal.returns-clause-back
unfolding eight four
returns-clause-back c =
    c.to_be_bytes-5.ensures
    ∙ ap four (c.sum_of_both.ensures ∙ ap (λ l. crc_32c (eight c.args.random ++ (l ++ c.args.body.now))) (front_written c))

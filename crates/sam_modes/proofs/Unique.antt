-- An input has one outcome.
use Rattle.sam_modes.proofs.Common.{◌≡◌, ◌∙◌, ℕ, List, inl, inr, Option, None, Some, Result, Ok, Err, refl, sym, ap, ap₂, terminal, version_after, PlainHost, HostFault, Served, serve, Plays, Stops, stop_at, host_fault_number, Stop}
use Rattle.sam_frame.specs.Reading.{IsSound}
use Rattle.sam_frame.proofs.Unique.{one_split, reads_on, two_fronts}
use Rattle.sam_ends.specs.declared.stop.Stop.TheVariants.{Host}
use Rattle.sam_modes.proofs.Serving.{serve-refused}

-- the stop of a refusal
abbrev refused_stop : Result PlainHost HostFault → Option Stop
refused_stop (Ok h) = None
refused_stop (Err why) = Some (Host (host_fault_number why))

pub one_outcome_of : IsSound terminal → (h : PlainHost) (input w x : List ℕ) (s t : Option Stop) → Plays h input w s → Plays h input x t → (w ≡ x) × (s ≡ t)
one_outcome_of sound h input w x s t p q = go (serve h p.messages).end refl (serve h q.messages).end refl p.stops q.stops
  where
    -- the answers are the same
    same_output : serve h p.messages ≡ serve h q.messages → w ≡ x
    same_output same = p.output ∙ ap (λ (r : Served). r.written) same ∙ sym q.output

    go : (a : Result PlainHost HostFault) → (serve h p.messages).end ≡ a → (b : Result PlainHost HostFault) → (serve h q.messages).end ≡ b
        → Stops a (version_after terminal 1 p.messages) p.rest s → Stops b (version_after terminal 1 q.messages) q.rest t → (w ≡ x) × (s ≡ t)
    go (Ok g) e (Ok k) f u v =
        let same = one_split terminal sound 1 input p.messages q.messages p.rest q.rest u.0 v.0 p.splits u.1 q.splits v.1 in
        (same_output (ap (serve h) same.0), u.2 ∙ ap₂ stop_at same.2 same.1 ∙ sym v.2)
    go (Err why) e (Ok k) f u v =
        let more = reads_on terminal sound 1 input p.messages q.messages p.rest q.rest v.0 p.splits q.splits v.1 in
        let same = ap (serve h) more.1 ∙ serve-refused h why p.messages more.0 e in
        let ends = sym f ∙ ap (λ (r : Served). r.end) same ∙ e in
        absurd (cc)
    go (Ok g) e (Err who) f u v =
        let more = reads_on terminal sound 1 input q.messages p.messages q.rest p.rest u.0 q.splits p.splits u.1 in
        let same = ap (serve h) more.1 ∙ serve-refused h who q.messages more.0 f in
        let ends = sym e ∙ ap (λ (r : Served). r.end) same ∙ f in
        absurd (cc)
    go (Err why) e (Err who) f u v =
        elim (two_fronts terminal sound 1 input p.messages q.messages p.rest q.rest p.splits q.splits) [
          | inl more ↦
              let same = sym (ap (serve h) more.1 ∙ serve-refused h why p.messages more.0 e) in
              (same_output same, u ∙ ap refused_stop (sym e ∙ ap (λ (r : Served). r.end) same ∙ f) ∙ sym v)
          | inr more ↦
              let same = ap (serve h) more.1 ∙ serve-refused h who q.messages more.0 f in
              (same_output same, u ∙ ap refused_stop (sym e ∙ ap (λ (r : Served). r.end) same ∙ f) ∙ sym v)
        ]

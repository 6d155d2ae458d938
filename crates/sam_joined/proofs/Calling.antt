-- Two runs of calls, in the words of what they come to.
use Rattle.std.proofs.Common.{◌≡◌, refl, sym, ap, subst, ◌∙◌, inl, inr, ◌⊎◌, ℕ, List, [], ◌∷◌, ◌++◌, append_assoc, append-nil, flat_map}
use Rattle.std.proofs.lemmas.Grind.{flat_map-append}
use Rattle.sam_host.specs.Host.{new_host}
use Rattle.sam_host.specs.Laws.{AreGiven}
use Rattle.sam_endpoint.specs.HostEndpoints.{PlainHostEndpoint}
use Rattle.sam_host.specs.declared.fault.HostFault.TheVariants as host_fault
use Rattle.sam_term.specs.declared.fault.TermFault.TheVariants as term_fault
use Rattle.sam_endpoint.specs.HostRuns.{Feed as FeedHost, Bring as BringHost, MakeStep as MakeHostStep, AddFile, MarkDirty, TakeOut as TakeOutHost, NextWritten, Stops as HostStops, HasServed, HasStopped as HostHasStopped, Call as HostCall, came_in as came_up, handed_out as handed_tags, asides_by, went_out as went_down}
use Rattle.sam_endpoint.specs.TermEndpoints.{PlainTermEndpoint}
use Rattle.sam_endpoint.specs.TermRuns.{HasDone, HasStopped as TermHasStopped, Feed as FeedTerm, Bring, BringEvent, MakeStep, Put, Flush, TakeOut, NextRefusal, Changed, Stops as TermStops, put_in, Call as TermCall, came_in as came_down, handed_out as handed_refusals, went_out as went_up}
use Rattle.sam_endpoint.specs.declared.fault.HostStop.{HostStop}
use Rattle.sam_endpoint.specs.declared.fault.HostStop.TheVariants as host_stop
use Rattle.sam_endpoint.specs.declared.fault.TermStop.{TermStop}
use Rattle.sam_endpoint.specs.declared.fault.TermStop.TheVariants as term_stop
use Rattle.sam_endpoint.proofs.HostEndpointRuns.{runs_serve, stops_serve}
use Rattle.sam_endpoint.proofs.TermEndpointRuns.{runs_lead, stops_lead}
use Rattle.sam_joined.specs.Calls.{Carry, CallsAreCarried, NoCallStopsTheHost, NoCallStopsTheTerminal}
use Rattle.sam_joined.specs.Joined.{AreCarried}
use Rattle.sam_joined.proofs.Joining.{host_stops, term_stops}

with_last : {A B : Type 0} (f : A → List B) (xs : List A) (x : A) → flat_map f (xs ++ x ∷ []) ≡ flat_map f xs ++ f x
with_last f xs x = flat_map-append f xs (x ∷ []) ∙ ap (λ (l : List _). flat_map f xs ++ l) (append-nil (f x))

carried_of : (given : List (List ℕ × List ℕ)) (host_calls : List HostCall) (term_calls : List TermCall) (up down : List ℕ) (e : PlainHostEndpoint) (g : PlainTermEndpoint)
    → AreGiven given → HasServed (new_host given) (flat_map came_up host_calls) (flat_map went_down host_calls) (flat_map handed_tags host_calls) (flat_map asides_by host_calls) e
    → HasDone (flat_map came_down term_calls) (flat_map put_in term_calls) (flat_map went_up term_calls) (flat_map handed_refusals term_calls) g
    → Carry host_calls term_calls up down e g → AreCarried given (flat_map asides_by host_calls) (flat_map put_in term_calls) up down e g
carried_of given host_calls term_calls up down e g fit served did carry = record {
  came_up = flat_map came_up host_calls;
  went_down = flat_map went_down host_calls;
  came_down = flat_map came_down term_calls;
  went_up = flat_map went_up term_calls;
  written = flat_map handed_tags host_calls;
  refused = flat_map handed_refusals term_calls;
  given_fit = fit;
  served = served;
  did = did;
  upwards = carry.upwards;
  downwards = carry.downwards;
}

pub calls_are_carried : CallsAreCarried
calls_are_carried given host_calls term_calls up down e g fit host_runs term_runs carry =
    carried_of given host_calls term_calls up down e g fit (runs_serve (new_host given) host_calls e host_runs) (runs_lead term_calls g term_runs) carry

-- ## A call that stops the host endpoint

-- it takes nothing out
none_out_down : (k e : PlainHostEndpoint) (last : HostCall) (why : HostStop) → HostStops k last why e → went_down last ≡ []
none_out_down k e (FeedHost piece answer) why s = refl
none_out_down k e (MakeHostStep result) why s = refl
none_out_down k e (BringHost piece result) why s = absurd s
none_out_down k e (AddFile count name text result) why s = absurd s
none_out_down k e (MarkDirty count f result) why s = absurd s
none_out_down k e (TakeOutHost bytes) why s = absurd s
none_out_down k e (NextWritten tag) why s = absurd s

module _ (given : List (List ℕ × List ℕ)) (host_calls : List HostCall) (last : HostCall) (term_calls : List TermCall) (up down : List ℕ) (why : HostStop)
    (e : PlainHostEndpoint) (g : PlainTermEndpoint) (fit : AreGiven given)
    (did : HasDone (flat_map came_down term_calls) (flat_map put_in term_calls) (flat_map went_up term_calls) (flat_map handed_refusals term_calls) g)
    (none : went_down last ≡ []) (carry : Carry (host_calls ++ last ∷ []) term_calls up down e g) where
  -- nothing of the last call was taken
  host_carried : HasServed (new_host given) (flat_map came_up host_calls) (flat_map went_down host_calls) (flat_map handed_tags host_calls) (flat_map asides_by host_calls) e
      → AreCarried given (flat_map asides_by host_calls) (flat_map put_in term_calls) (came_up last ++ up) down e g
  host_carried served = carried_of given host_calls term_calls (came_up last ++ up) down e g fit served did (record {
    upwards = carry.upwards ∙ (ap (λ (l : List ℕ). l ++ up) (with_last came_up host_calls last) ∙ append_assoc (flat_map came_up host_calls) (came_up last) up);
    downwards = ap (λ (l : List ℕ). l ++ e.pending_bytes)
        (sym (with_last went_down host_calls last ∙ (ap (λ (l : List ℕ). flat_map went_down host_calls ++ l) none ∙ append-nil (flat_map went_down host_calls)))) ∙ carry.downwards;
  })

  host_stop_is : (taken : List HostCall) → (taken ≡ host_calls ++ last ∷ []) ⊎ (taken ≡ host_calls)
      → HasServed (new_host given) (flat_map came_up taken) (flat_map went_down taken) (flat_map handed_tags taken) (flat_map asides_by taken) e → HostHasStopped e why
      → (taken : List HostCall) × ((taken ≡ host_calls ++ last ∷ []) ⊎ (taken ≡ host_calls)) × (way : List ℕ)
      × AreCarried given (flat_map asides_by taken) (flat_map put_in term_calls) way down e g × (why ≡ host_stop.Refused host_fault.CountFull)
  host_stop_is taken (inl all) served stopped =
      let done =
      subst (λ (calls : List HostCall). HasServed (new_host given) (flat_map came_up calls) (flat_map went_down calls) (flat_map handed_tags calls) (flat_map asides_by calls) e) all served in
      let calls = host_calls ++ last ∷ [] in
      let c = carried_of given calls term_calls up down e g fit done did carry in
      (calls, inl refl, up, c, host_stops given (flat_map asides_by calls) (flat_map put_in term_calls) up down e g c why stopped)
  host_stop_is taken (inr before) served stopped =
      let done =
      subst (λ (calls : List HostCall). HasServed (new_host given) (flat_map came_up calls) (flat_map went_down calls) (flat_map handed_tags calls) (flat_map asides_by calls) e) before served in
      let way = came_up last ++ up in
      let c = host_carried done in
      (host_calls, inr refl, way, c, host_stops given (flat_map asides_by host_calls) (flat_map put_in term_calls) way down e g c why stopped)

pub no_call_stops_host : NoCallStopsTheHost
no_call_stops_host given host_calls last term_calls up down why k e g fit host_runs stops term_runs carry =
    let s = stops_serve (new_host given) host_calls last k e why host_runs stops in
    host_stop_is given host_calls last term_calls up down why e g fit (runs_lead term_calls g term_runs) (none_out_down k e last why stops) carry s.0 s.1 s.2 s.3

-- ## A call that stops the terminal endpoint

-- it takes nothing out, either
none_out_up : (k g : PlainTermEndpoint) (last : TermCall) (why : TermStop) → TermStops k last why g → went_up last ≡ []
none_out_up k g (FeedTerm piece answer) why s = refl
none_out_up k g (MakeStep result) why s = refl
none_out_up k g (Put event answer) why s = refl
none_out_up k g (Flush answer) why s = refl
none_out_up k g (Bring piece result) why s = absurd s
none_out_up k g (BringEvent event result) why s = absurd s
none_out_up k g (TakeOut bytes) why s = absurd s
none_out_up k g (NextRefusal told) why s = absurd s
none_out_up k g (Changed kept) why s = absurd s

module _ (given : List (List ℕ × List ℕ)) (host_calls : List HostCall) (term_calls : List TermCall) (last : TermCall) (up down : List ℕ) (why : TermStop)
    (e : PlainHostEndpoint) (g : PlainTermEndpoint) (fit : AreGiven given)
    (served : HasServed (new_host given) (flat_map came_up host_calls) (flat_map went_down host_calls) (flat_map handed_tags host_calls) (flat_map asides_by host_calls) e)
    (none : went_up last ≡ []) (carry : Carry host_calls (term_calls ++ last ∷ []) up down e g) where
  -- nothing of the last call was taken
  term_carried : HasDone (flat_map came_down term_calls) (flat_map put_in term_calls) (flat_map went_up term_calls) (flat_map handed_refusals term_calls) g
      → AreCarried given (flat_map asides_by host_calls) (flat_map put_in term_calls) up (came_down last ++ down) e g
  term_carried did = carried_of given host_calls term_calls up (came_down last ++ down) e g fit served did (record {
    upwards = ap (λ (l : List ℕ). l ++ g.pending_bytes)
        (sym (with_last went_up term_calls last ∙ (ap (λ (l : List ℕ). flat_map went_up term_calls ++ l) none ∙ append-nil (flat_map went_up term_calls)))) ∙ carry.upwards;
    downwards = carry.downwards ∙ (ap (λ (l : List ℕ). l ++ down) (with_last came_down term_calls last) ∙ append_assoc (flat_map came_down term_calls) (came_down last) down);
  })

  term_stop_is : (taken : List TermCall) → (taken ≡ term_calls ++ last ∷ []) ⊎ (taken ≡ term_calls)
      → HasDone (flat_map came_down taken) (flat_map put_in taken) (flat_map went_up taken) (flat_map handed_refusals taken) g → TermHasStopped g why
      → (taken : List TermCall) × ((taken ≡ term_calls ++ last ∷ []) ⊎ (taken ≡ term_calls)) × (way : List ℕ)
      × AreCarried given (flat_map asides_by host_calls) (flat_map put_in taken) up way e g × (why ≡ term_stop.Refused term_fault.CountFull)
  term_stop_is taken (inl all) did stopped =
      let done = subst (λ (calls : List TermCall). HasDone (flat_map came_down calls) (flat_map put_in calls) (flat_map went_up calls) (flat_map handed_refusals calls) g) all did in
      let calls = term_calls ++ last ∷ [] in
      let c = carried_of given host_calls calls up down e g fit served done carry in
      (calls, inl refl, down, c, term_stops given (flat_map asides_by host_calls) (flat_map put_in calls) up down e g c why stopped)
  term_stop_is taken (inr before) did stopped =
      let done = subst (λ (calls : List TermCall). HasDone (flat_map came_down calls) (flat_map put_in calls) (flat_map went_up calls) (flat_map handed_refusals calls) g) before did in
      let way = came_down last ++ down in
      let c = term_carried done in
      (term_calls, inr refl, way, c, term_stops given (flat_map asides_by host_calls) (flat_map put_in term_calls) up way e g c why stopped)

pub no_call_stops_term : NoCallStopsTheTerminal
no_call_stops_term given host_calls term_calls last up down why e k g fit host_runs term_runs stops carry =
    let s = stops_lead term_calls last k g why term_runs stops in
    term_stop_is given host_calls term_calls last up down why e g fit (runs_serve (new_host given) host_calls e host_runs) (none_out_up k g last why stops) carry s.0 s.1 s.2 s.3

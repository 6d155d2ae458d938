-- What a host answers to messages in turn.
use Rattle.sam_modes.proofs.Common.{◌≡◌, ℕ, List, [], ◌∷◌, ◌++◌, Ok, Err, flat_map, append_assoc, arith, Tmesg, HFrame, PlainHost, Answer, answer, HostFault, served_on, serve, after_output}
use Rattle.sam_frame.specs.Direction.{host}
use Rattle.sam_frame.specs.Stream.{stream_of}
use Rattle.sam_frame.proofs.Fronts.{stream_of-append}
use Rattle.std.specs.Prelude.{map}
use Rattle.sam_endpoint.specs.HostEndpoints.{Serves, Answered}

-- a host that answered the first messages goes on to the others
pub served_then : (h g : PlainHost) (ms ns : List Tmesg) (frames : List HFrame) (writes : List ℕ) → Serves h (map Answered ms) frames writes g
    → serve h (ms ++ ns) ≡ after_output (stream_of host frames) (serve g ns)
served_then h g [] ns frames writes (none, noted, is) = grind arith
served_then h g (m ∷ ms) ns frames writes (k, first, rest, more, answered, is, noted, serves) =
    go (answer h m) answered (served_then k g ms ns rest more serves)
  where
    go : (r : Answer) → r ≡ Ok (k, first) → serve k (ms ++ ns) ≡ after_output (stream_of host rest) (serve g ns)
        → served_on r (λ d. serve d (ms ++ ns)) ≡ after_output (stream_of host frames) (serve g ns)
    go r e u = grind (arith, append_assoc, (stream_of-append host first rest))

-- after a refusal nothing is answered
pub serve-refused : (h : PlainHost) (why : HostFault) (ms ns : List Tmesg) → (serve h ms).end ≡ Err why → serve h (ms ++ ns) ≡ serve h ms
serve-refused h why [] ns is = absurd (cc)
serve-refused h why (m ∷ ms) ns is = go (λ d e. serve-refused d why ms ns e) (answer h m) is
  where
    go : ((d : PlainHost) → (serve d ms).end ≡ Err why → serve d (ms ++ ns) ≡ serve d ms)
        → (r : Answer) → (served_on r (λ d. serve d ms)).end ≡ Err why → served_on r (λ d. serve d (ms ++ ns)) ≡ served_on r (λ d. serve d ms)
    go e r u = grind (arith, flat_map)

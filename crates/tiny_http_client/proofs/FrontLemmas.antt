-- More bytes after an answer change nothing of it, and a proper front of an answer is unfinished.
use Rattle.std.proofs.Common.{◌≡◌, refl, sym, ap, ◌∙◌, ℕ, ◌+◌, ◌<◌, inl, inr, List, [], ◌∷◌, ◌++◌, length, take, append_assoc, arith, length-append, ⊎_elim}
use Rattle.std.proofs.lemmas.List.{take-append-le}
use Rattle.std.specs.declared.io.ErrorKind.TheVariants.{InvalidData, UnexpectedEof}
use Rattle.tiny_http_head.specs.declared.common.HTTPVersion.{HTTPVersion}
use Rattle.tiny_http_head.specs.declared.common.Header.{Header}
use Rattle.tiny_http_head.specs.declared.common.Method.{Method}
use Rattle.tiny_http_io.specs.declared.device.Stop.TheVariants.{End}
use Rattle.tiny_http_text.specs.Bytes.{crlf}
use Rattle.tiny_http_text.specs.Lines.{Line, has_crlf}
use Rattle.tiny_http_body.specs.Chunks.{longest_line, lines_text, WholeChunks, CutChunks, Remainder, NoSizeLine, BadSize, CutData, NoClose, CutTrailer, LongTrailer, RemainderBreaks, ChunkLineFault, CloseFault}
use Rattle.tiny_http_client.specs.ClientAnswer.{BeginsWithFieldLines, AnswerHead, BeginsWithStatusLine, BeginsWithAnswerHead, PassesOver, Extent, NoBody, OfChunks, OfLength, OfUnknownLength, extent, BeginsWithBody, ClientAnswer, ReadsAnswer, Invalid, LacksLine, IsStatusLine, IsFieldLineOrEmpty, LacksHead, LacksBody, UnfinishedAnswer, MalformedAnswer}
use Rattle.tiny_http_client.proofs.ClientAnswerLaws.{answer-some, answer-same, answer-no_lack}

module _ (y : List ℕ) where
  line-more : (x text rest : List ℕ) → Line x text rest → Line (x ++ y) text (rest ++ y)
  line-more x text rest l = record { joins = ap (λ z. z ++ y) l.joins ∙ append_assoc (text ++ crlf) rest y; first = l.first }

  fields-more : (x : List ℕ) (hs : List Header) (rest : List ℕ) → BeginsWithFieldLines x hs rest → BeginsWithFieldLines (x ++ y) hs (rest ++ y)
  fields-more x [] rest f = ap (λ z. z ++ y) f
  fields-more x (h ∷ hs) rest f = (f.0, f.1 ++ y, line-more x f.0 f.1 f.2, f.3, f.4, fields-more f.1 hs rest f.5)

  starts-more : (x : List ℕ) (v : HTTPVersion) (status : ℕ) (rest : List ℕ) → BeginsWithStatusLine x v status rest → BeginsWithStatusLine (x ++ y) v status (rest ++ y)
  starts-more x v status rest s = (s.0, line-more x s.0 rest s.1, s.2, s.3)

  pub head-more : (x : List ℕ) (h : AnswerHead) (after : List ℕ) → BeginsWithAnswerHead x h after → BeginsWithAnswerHead (x ++ y) h (after ++ y)
  head-more x h after a = record {
    fields = a.fields ++ y;
    empty = a.empty ++ y;
    starts = starts-more x h.version h.status a.fields a.starts;
    names = fields-more a.fields h.headers a.empty a.names;
    ends = line-more a.empty [] after a.ends;
  }

  passes-more : (x : List ℕ) (hs : List AnswerHead) (start : List ℕ) → PassesOver x hs start → PassesOver (x ++ y) hs (start ++ y)
  passes-more x [] start p = ap (λ z. z ++ y) p
  passes-more x (h ∷ hs) start p = (p.0 ++ y, head-more x h p.0 p.1, p.2, passes-more p.0 hs start p.3)

  chunks-more : (x body rest : List ℕ) → WholeChunks x body rest → WholeChunks (x ++ y) body (rest ++ y)
  chunks-more x body rest c = record {
    chunks = c.chunks;
    last = c.last;
    trailers = c.trailers;
    joins = ap (λ z. z ++ y) c.joins ∙ simp append_assoc;
    body_is = c.body_is;
    are_chunks = c.are_chunks;
    is_last_chunk = c.is_last_chunk;
    are_trailers = c.are_trailers;
    few_trailers = c.few_trailers;
  }

  body-more : (e : Extent) (x body rest : List ℕ) → BeginsWithBody e x body rest → BeginsWithBody e (x ++ y) body (rest ++ y)
  body-more NoBody x body rest b = (b.0, ap (λ z. z ++ y) b.1)
  body-more OfChunks x body rest b = chunks-more x body rest b
  body-more (OfLength n) x body rest b = (ap (λ z. z ++ y) b.0 ∙ append_assoc body rest y, b.1)
  body-more OfUnknownLength x body rest b = elim b [ ]

  -- an answer stays what it is
  pub answer-more : (m : Method) (x : List ℕ) (a : ClientAnswer) (rest : List ℕ) → ReadsAnswer m x a rest → ReadsAnswer m (x ++ y) a (rest ++ y)
  answer-more m x a rest h = record {
    interim = h.interim;
    start = h.start ++ y;
    after = h.after ++ y;
    passes = passes-more x h.interim h.start h.passes;
    has_head = head-more h.start a.head h.after h.has_head;
    is_final = h.is_final;
    has_body = body-more (extent m a.head) h.after a.body rest h.has_body;
  }

  bad-line-more : (Good : List ℕ → Type 0) (x : List ℕ) → LacksLine Good x Invalid → LacksLine Good (x ++ y) Invalid
  bad-line-more Good x h = (h.0, h.1 ++ y, line-more x h.0 h.1 h.2, h.3)

  bad-head-more : (x : List ℕ) → LacksHead x Invalid → LacksHead (x ++ y) Invalid
  bad-head-more x h =
      ⊎_elim
      (λ k. inl (bad-line-more IsStatusLine x k))
      (λ k. inr (k.0, k.1, k.2 ++ y, k.3, k.4 ++ y, starts-more x k.0 k.1 k.2 k.5, fields-more k.2 k.3 k.4 k.6, bad-line-more IsFieldLineOrEmpty k.4 k.7))
      h

  not-early : {G : Type 0} → InvalidData ≡ UnexpectedEof → G
  not-early e = cc

  bad-size-more : (x : List ℕ) → ChunkLineFault x End InvalidData → ChunkLineFault (x ++ y) End InvalidData
  bad-size-more x h =
      ⊎_elim
      (λ k.
      let e : take (longest_line + 2) (x ++ y) ≡ take (longest_line + 2) x = take-append-le (longest_line + 2) x y k.0 in
      (ap has_crlf e ∙ h.0, inl (omega (arith, length-append x y, k.0), refl)))
      (λ k. not-early k.1)
      h.1

  bad-close-more : (close : List ℕ) → CloseFault close End InvalidData → CloseFault (close ++ y) End InvalidData
  bad-close-more [] h = not-early h
  bad-close-more (a ∷ []) h = ⊎_elim (λ k. not-early k.1) (λ k. alone a y k.0) h
    where
      alone : (a : ℕ) (z : List ℕ) → (a ≡ 13 → ⊥) → CloseFault (a ∷ z) End InvalidData
      alone a [] n = inr (n, refl)
      alone a (b ∷ bs) n = ((λ e. n (let k : a ≡ 13 = cc in k)), refl)
  bad-close-more (a ∷ b ∷ bs) h = h

  breaks-more : (way : Remainder) (x part : List ℕ) → RemainderBreaks way x End part InvalidData → (other : Remainder) × RemainderBreaks other (x ++ y) End part InvalidData
  breaks-more NoSizeLine x part h = (NoSizeLine, (h.0, bad-size-more x h.1))
  breaks-more (BadSize text rest) x part h = (BadSize text (rest ++ y), (ap (λ z. z ++ y) h.0 ∙ append_assoc (text ++ crlf) rest y, h.1, h.2, h.3, h.4))
  breaks-more (CutData text size) x part h = not-early h.4
  breaks-more (NoClose text close) x part h = (NoClose text (close ++ y), (ap (λ z. z ++ y) h.0 ∙ append_assoc (text ++ crlf ++ part) close y, h.1, h.2, h.3, bad-close-more close h.4))
  breaks-more (CutTrailer last trailers next) x part h = (CutTrailer last trailers (next ++ y), (ap (λ z. z ++ y) h.0 ∙ append_assoc (lines_text (last ∷ trailers)) next y, h.1, h.2, h.3, bad-size-more next h.4, h.5))
  breaks-more (LongTrailer last trailers next) x part h = (LongTrailer last trailers (next ++ y), (ap (λ z. z ++ y) h.0 ∙ append_assoc (lines_text (last ∷ trailers)) next y, h.1, h.2, h.3, h.4, h.5))

  bad-chunks-more : (x body : List ℕ) → CutChunks x End body InvalidData → CutChunks (x ++ y) End body InvalidData
  bad-chunks-more x body f =
      let b = breaks-more f.way f.rest f.part f.breaks in
      record { chunks = f.chunks; rest = f.rest ++ y; part = f.part; way = b.0; joins = ap (λ z. z ++ y) f.joins ∙ simp append_assoc; body_is = f.body_is; are_chunks = f.are_chunks; breaks = b.1 }

  bad-body-more : (e : Extent) (x : List ℕ) → LacksBody e x Invalid → LacksBody e (x ++ y) Invalid
  bad-body-more NoBody x b = elim b [ ]
  bad-body-more OfChunks x b = (b.0, bad-chunks-more x b.0 b.1)
  bad-body-more (OfLength n) x b = elim b [ ]
  bad-body-more OfUnknownLength x b = tt

  -- and so do bytes that break the rules
  pub malformed-more : (m : Method) (x : List ℕ) → MalformedAnswer m x → MalformedAnswer m (x ++ y)
  malformed-more m x h = (
    h.0,
    h.1 ++ y,
    passes-more x h.0 h.1 h.2,
    ⊎_elim (λ k. inl (bad-head-more h.1 k)) (λ k. inr (k.0, k.1 ++ y, head-more h.1 k.0 k.1 k.2, k.3, bad-body-more (extent m k.0) k.1 k.4)) h.3,
  )

not-nil : {G : Type 0} (rest y : List ℕ) → [] ≡ rest ++ y → 0 < length y → G
not-nil [] y e p = let k : length y ≡ 0 = sym (ap length e) in absurd (omega arith)
not-nil (r ∷ rs) y e p = cc

-- a proper front of an answer is unfinished
pub front-unfinished : (m : Method) (x y : List ℕ) (a : ClientAnswer) → 0 < length y → ReadsAnswer m (x ++ y) a [] → UnfinishedAnswer m x
front-unfinished m x y a p h =
    ⊎_elim
    (λ k. not-nil k.1 y (answer-same m (x ++ y) a k.0 [] (k.1 ++ y) h (answer-more y m x k.0 k.1 k.2)).1 p)
    (λ k. ⊎_elim (λ u. u) (λ b. absurd (answer-no_lack m (x ++ y) Invalid a [] h (malformed-more y m x b))) k)
    (answer-some m x)

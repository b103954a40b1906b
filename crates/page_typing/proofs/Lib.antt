mod TypingLaws

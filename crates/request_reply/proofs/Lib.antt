mod Sents
